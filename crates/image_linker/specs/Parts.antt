-- Beyond the program's claim: only laws, proofs and functions inside the tool cite this file.
-- The parts of tables, as the code makes them one after the other.
use Rattle.std.specs.Prelude.{◌≡◌, ℕ, ◌+◌, ◌*◌, List, [], ◌∷◌, length, map}
use Rattle.std.specs.List.{flat_map}
use Rattle.std.proofs.Math.ListN.{get_or}
use Rattle.ir_model.specs.Resolved.{Program, NumberedWindow}
use Rattle.plan_model.specs.declared.needs.SiteNeed.{SiteNeed}
use Rattle.plan_model.specs.declared.graph.Final.{Final}
use Rattle.plan_model.specs.declared.plan.Spot.{Spot}
use Rattle.plan_model.specs.declared.plan.Plan.{Plan}
use Rattle.plan_model.specs.declared.plan.Board.{Board}
use Rattle.plan_model.specs.Lists.{numbers_below}
use Rattle.plan_model.specs.Boards.{slots_of}
use Rattle.plan_model.specs.Placement.{global_address}
use Rattle.code_model.specs.CompartmentCode.{CodePlaces, entry_of}
use Rattle.monitor_model.specs.declared.tables.Tables.{Tables}
use Rattle.image_entries.specs.declared.numbers.Numbers.{Numbers}
use Rattle.code_model.specs.declared.places.Addresses.{Addresses}
use Rattle.image_entries.specs.declared.making.Making.{Making}
use Rattle.image_linker.specs.declared.linking.Crossings.{Crossings}
use Rattle.image_linker.specs.declared.linking.Fills.{Fills}
use Rattle.image_entries.specs.Grouped.{groups_in}
use Rattle.image_entries.specs.Making.{program_in}
use Rattle.image_entries.specs.Recorded.{entry_in, site_records_in, target_records_in}
use Rattle.image_model.specs.FirstWords.{first_words}
use Rattle.image_blocks.specs.Filling.{object_places}
use Rattle.image_model.specs.LinkedTables.{Filled, comp_record, lend_sizes, filled, init_records}

-- where the code of each compartment, each global and each window begins
abbrev pub planned_places : Program → Final → Plan → CodePlaces
planned_places p f l =
    record {
      bases = map (λ (s : Spot). s.base) l.code;
      globals = map (global_address p f l) (numbers_below (length p.globals));
      windows = map (λ (w : NumberedWindow). w.base) p.periphs;
    }

pub record AreAddresses (p : Program) (f : Final) (l : Plan) (x : Numbers) (a : Addresses) : Type 0 where
  pub compartments : length f.groups.of ≡ length p.funcs
  pub globals_are : a.globals ≡ (planned_places p f l).globals
  pub windows_are : a.windows ≡ (planned_places p f l).windows
  pub entries_are : a.entries ≡ map (entry_of p (groups_in f.groups.of x) (planned_places p f l)) (numbers_below (length p.funcs))

pub record AreCrossings (m : Making) (sites : List SiteNeed) (lent : List (ℕ × ℕ)) (x : Crossings) : Type 0 where
  pub sites_are : x.sites.items ≡ site_records_in m 0 sites
  pub targets_are : x.targets.items ≡ target_records_in m sites
  pub lends_are : x.lends.items ≡ lend_sizes (program_in m) lent

abbrev pub words_in_blocks : Making → List Filled → List ℕ
words_in_blocks m bs = flat_map (λ (b : Filled). first_words (program_in m) (object_places m.addresses.now) b.globals) bs

pub record AreFills (m : Making) (f : Final) (from : ℕ) (x : Fills) : Type 0 where
  pub inits_are : x.inits.items ≡ init_records (program_in m) from (filled f m.plan.now)
  pub words_are : x.words.items ≡ words_in_blocks m (filled f m.plan.now)

-- how many blocks hold globals of no data region
abbrev pub one_if_any : List ℕ → ℕ
one_if_any [] = 0
one_if_any (x ∷ xs) = 1

-- where the initial words begin behind so many records
abbrev pub words_at_counts : (base slots comps sites targets lends : ℕ) → Final → ℕ
words_at_counts base slots comps sites targets lends f =
    base + (4096 + 32) + (8 * slots + 16) * comps + 12 * sites + 8 * targets + 4 * lends + 12 * length f.regions + 12 * one_if_any f.unwritten

abbrev pub words_behind : (base slots : ℕ) → Final → Crossings → ℕ
words_behind base slots f x = words_at_counts base slots f.groups.count (length x.sites.items) (length x.targets.items) (length x.lends.items) f

abbrev pub tables_in : Making → Final → Board → List SiteNeed → (lent : List (ℕ × ℕ)) → Tables
tables_in m f b sites lent =
    record {
      base = m.plan.now.tables.base;
      comps = map (comp_record (program_in m) f m.plan.now (slots_of b)) (numbers_below f.groups.count);
      sites = site_records_in m 0 sites;
      targets = target_records_in m sites;
      lends = lend_sizes (program_in m) lent;
      inits =
          init_records (program_in m)
          (words_at_counts m.plan.now.tables.base (slots_of b) f.groups.count (length (site_records_in m 0 sites)) (length (target_records_in m sites)) (length lent) f)
          (filled f m.plan.now);
      words = words_in_blocks m (filled f m.plan.now);
      stack = m.plan.now.stack;
      monitor = m.plan.now.monitor.base;
      main = entry_in m (program_in m).main + 1;
      main_comp = get_or f.groups.of (program_in m).main 0;
      closed = b.closed;
    }

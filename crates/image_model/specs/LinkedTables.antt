-- The tables of a firmware by its needs, its graph of compartments, its plan and the board.
use Rattle.std.specs.Prelude.{ℕ, ◌+◌, ◌-◌, ◌*◌, List, [], ◌∷◌, ◌++◌, length, map, unwrap_or}
use Rattle.std.specs.List.{flat_map}
use Rattle.ir_model.specs.Resolved.{Program, func_at, local_at}
use Rattle.plan_model.specs.declared.needs.SiteNeed.{SiteNeed}
use Rattle.plan_model.specs.declared.needs.Needs.{Needs}
use Rattle.plan_model.specs.declared.graph.Final.{Final}
use Rattle.plan_model.specs.declared.plan.Plan.{Plan}
use Rattle.plan_model.specs.declared.plan.Board.{Board}
use Rattle.plan_model.specs.Lists.{numbers_below}
use Rattle.plan_model.specs.Groups.{compartment_of}
use Rattle.plan_model.specs.Crossing.{crossing_sites}
use Rattle.plan_model.specs.Lending.{lent}
use Rattle.plan_model.specs.Regions.{region_at}
use Rattle.plan_model.specs.Boards.{slots_of}
use Rattle.plan_model.specs.Placement.{no_spot, region_spot}
use Rattle.plan_model.specs.Slots.{slot_regions, code_region, lend_mask, read_mask}
use Rattle.plan_model.specs.TableSize.{words_in, initial_words, table_bytes}
use Rattle.code_model.specs.declared.places.Places.{Places}
use Rattle.code_model.specs.Sizes.{site_offset}
use Rattle.code_model.specs.FunctionCode as code
use Rattle.code_model.specs.CompartmentCode.{places_of}
use Rattle.code_model.specs.Planned.{code_groups, code_places, planned_entry}
use Rattle.monitor_model.specs.declared.tables.CompRecord.{CompRecord}
use Rattle.monitor_model.specs.declared.tables.SiteRecord.{SiteRecord}
use Rattle.monitor_model.specs.declared.tables.TargetRecord.{TargetRecord}
use Rattle.monitor_model.specs.declared.tables.InitRecord.{InitRecord}
use Rattle.monitor_model.specs.declared.tables.Tables.{Tables}
use Rattle.image_model.specs.FirstWords.{first_words}

-- a block that start-up fills, and its globals
pub record Filled : Type 0 where
  pub base : ℕ
  pub globals : List ℕ

-- a compartment with so many slots
abbrev pub comp_record : Program → Final → Plan → (slots compartment : ℕ) → CompRecord
comp_record p f l slots c = record { code = code_region l c; slots = slot_regions p f l slots c; mask = lend_mask f c; reads = read_mask f c }

-- the bytes of each of these locals
abbrev pub lend_sizes : Program → List (ℕ × ℕ) → List ℕ
lend_sizes p xs = map (λ (x : ℕ × ℕ). (local_at p x.0 x.1).size) xs

-- the block of the globals of no data region, where there are any
abbrev pub filled_unwritten : Plan → (globals : List ℕ) → List Filled
filled_unwritten l [] = []
filled_unwritten l (x ∷ xs) = record { base = (unwrap_or l.unwritten no_spot).base; globals = x ∷ xs } ∷ []

-- the blocks that start-up fills: those of the data regions in order, and that one
abbrev pub filled : Final → Plan → List Filled
filled f l =
    map (λ r. record { base = (region_spot l r).base; globals = (region_at f.regions r).globals }) (numbers_below (length f.regions))
    ++ filled_unwritten l f.unwritten

-- of blocks whose words stand from this address on, one block's behind the other's
abbrev pub init_records : Program → (from : ℕ) → List Filled → List InitRecord
init_records p a [] = []
init_records p a (b ∷ bs) =
    record { at = b.base; end = b.base + 4 * words_in p b.globals; from = a } ∷ init_records p (a + 4 * words_in p b.globals) bs

module _ (p : Program) (n : Needs) (f : Final) (l : Plan) where
  -- ---- crossing sites and their targets

  -- what the code of a function needs from outside
  abbrev pub planned_places : (func : ℕ) → Places
  planned_places h = places_of p (code_groups p n f.groups) (code_places p n f l) h

  -- the address behind the SVC of a site, where the halfword with its number stands
  abbrev pub return_address : SiteNeed → ℕ
  return_address s =
      planned_entry p n f l s.func
      + site_offset (func_at p s.func) (planned_places s.func).sites (code.lent (func_at p s.func) (planned_places s.func)) s.block s.inst

  -- of sites whose targets are numbered from this number on
  abbrev pub site_records : (first : ℕ) → List SiteNeed → List SiteRecord
  site_records k [] = []
  site_records k (s ∷ ss) = record { ret = return_address s; first = k; count = length s.targets } ∷ site_records (k + length s.targets) ss

  abbrev pub target_record : (func : ℕ) → TargetRecord
  target_record h = record { entry = planned_entry p n f l h + 1; compartment = compartment_of f.groups h }

  abbrev pub target_records : List SiteNeed → List TargetRecord
  target_records ss = flat_map (λ (s : SiteNeed). map target_record s.targets) ss

  -- ---- initial words

  -- where globals, windows and functions lie
  abbrev pub object_places : Places
  object_places =
      record {
        globals = (code_places p n f l).globals;
        windows = (code_places p n f l).windows;
        entries = map (planned_entry p n f l) (numbers_below (length p.funcs));
        sites = [];
        lends = [];
      }

  abbrev pub words_of : List Filled → List ℕ
  words_of bs = flat_map (λ (b : Filled). first_words p object_places b.globals) bs

  -- they stand last in the tables
  abbrev pub words_begin : (slots : ℕ) → ℕ
  words_begin slots = l.tables.base + (table_bytes p n f slots - 4 * initial_words p f)

  -- ---- all of it

  unfoldable pub tables_of : Board → Tables
  tables_of b =
      record {
        base = l.tables.base;
        comps = map (comp_record p f l (slots_of b)) (numbers_below f.groups.count);
        sites = site_records 0 (crossing_sites n f.groups);
        targets = target_records (crossing_sites n f.groups);
        lends = lend_sizes p (lent n f.groups);
        inits = init_records p (words_begin (slots_of b)) (filled f l);
        words = words_of (filled f l);
        stack = l.stack;
        monitor = l.monitor.base;
        main = planned_entry p n f l p.main + 1;
        main_comp = compartment_of f.groups p.main;
        closed = b.closed;
      }

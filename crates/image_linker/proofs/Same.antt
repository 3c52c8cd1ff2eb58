-- The tables and the flash that the code makes are those of the definitions.
use Rattle.std.proofs.Common.{◌≡◌, ℕ, suc, ◌+◌, ◌-◌, List, [], ◌∷◌, length, map, flat_map, fold, get_or, refl, ap, sym, ◌∙◌, subst, length-append, arith}
use Rattle.std.proofs.lemmas.List.{length-map}
use Rattle.std.proofs.lemmas.List.Sums.{sum_by-cons}
use Rattle.base_words.specs.Bytes.{write_all}
use Rattle.ir_model.specs.Resolved.{Program, func_at}
use Rattle.plan_model.specs.declared.needs.SiteNeed.{SiteNeed}
use Rattle.plan_model.specs.declared.needs.Needs.{Needs}
use Rattle.plan_model.specs.declared.graph.DataRegion.{DataRegion}
use Rattle.plan_model.specs.declared.graph.Final.{Final}
use Rattle.plan_model.specs.declared.plan.Spot.{Spot}
use Rattle.plan_model.specs.declared.plan.Plan.{Plan}
use Rattle.plan_model.specs.declared.plan.Board.{Board}
use Rattle.plan_model.specs.Lists.{numbers_below}
use Rattle.plan_model.specs.Crossing.{crossing_sites, target_count}
use Rattle.plan_model.specs.Lending.{lent}
use Rattle.plan_model.specs.Boards.{slots_of}
use Rattle.plan_model.specs.Placement.{no_spot, compartment_spot, flash_used}
use Rattle.plan_model.specs.TableSize.{unless_empty, filled_blocks, table_bytes}
use Rattle.code_model.specs.declared.places.Places.{Places}
use Rattle.code_model.specs.FrameShape.{local_starts}
use Rattle.code_model.specs.Places.{lends_among}
use Rattle.code_model.specs.Sizes.{site_offset}
use Rattle.code_model.specs.CompartmentCode.{CodeGroups, CodePlaces, entry_of, compartment_bytes}
use Rattle.code_model.specs.Planned.{code_groups, code_places}
use Rattle.monitor_model.specs.declared.tables.SiteRecord.{SiteRecord}
use Rattle.monitor_model.specs.declared.tables.TargetRecord.{TargetRecord}
use Rattle.monitor_model.specs.declared.tables.Tables.{Tables}
use Rattle.image_model.specs.FirstWords.{first_words}
use Rattle.image_model.specs.LinkedTables as defined
use Rattle.image_model.specs.LinkedTables.{Filled}
use Rattle.image_model.specs.LinkedImage.{erased, with_tables, with_code, flash_of}
use Rattle.image_entries.specs.declared.making.Making.{Making}
use Rattle.image_entries.specs.declared.numbers.Numbers.{Numbers}
use Rattle.image_entries.specs.Grouped.{AreNumbers, groups_in}
use Rattle.image_entries.specs.Bases.{base_in}
use Rattle.image_entries.specs.Making.{program_in, grouped, places_at}
use Rattle.image_linker.specs.Standing.{bytes_in}
use Rattle.image_entries.specs.Recorded.{site_records_in, target_in, target_records_in}
use Rattle.image_blocks.specs.Filling.{object_places}
use Rattle.image_linker.specs.Placing.{with_code_of, flash_with}
use Rattle.image_linker.specs.Parts.{AreAddresses, planned_places, one_if_any, words_at_counts, words_in_blocks, tables_in}
use Rattle.image_linker.proofs.Linked.{places_are}
use Rattle.image_linker.proofs.Placed.{groups_made}
use Rattle.base_laws.proofs.Lists.{get_or_mapped}

-- ---- how many records

sites_counted : (m : Making) (k : ℕ) (ss : List SiteNeed) → length (site_records_in m k ss) ≡ length ss
sites_counted m k [] = refl
sites_counted m k (s ∷ ss) = ap suc (sites_counted m (k + length s.targets) ss)

targets_counted : (m : Making) (ss : List SiteNeed) → length (target_records_in m ss) ≡ target_count ss
targets_counted m [] = refl
targets_counted m (s ∷ ss) =
    omega (arith, length-append (map (target_in m) s.targets) (target_records_in m ss), length-map s.targets (target_in m), targets_counted m ss, sum_by-cons (λ (x : SiteNeed). length x.targets) s ss)

any_counted : (xs : List ℕ) → length (unless_empty xs) ≡ one_if_any xs
any_counted [] = refl
any_counted (x ∷ xs) = refl

filled_counted : (f : Final) → length (filled_blocks f) ≡ length f.regions + one_if_any f.unwritten
filled_counted f =
    omega (arith, length-append (map (λ (r : DataRegion). r.globals) f.regions) (unless_empty f.unwritten), length-map f.regions (λ (r : DataRegion). r.globals), any_counted f.unwritten)

fold_same : {B A : Type 0} (F G : B → A → B) → ((b : B) (a : A) → F b a ≡ G b a) → (b : B) (xs : List A) → fold F b xs ≡ fold G b xs
fold_same F G h b [] = refl
fold_same F G h b (x ∷ xs) = ap (λ y. fold F y xs) (h b x) ∙ fold_same F G h (G b x) xs

module _ (m : Making) (n : Needs) (f : Final) (cs : m.compartments.now ≡ f.groups.of) (as_ : AreAddresses (program_in m) f m.plan.now m.numbers.now m.addresses.now)
    (are : AreNumbers (program_in m) (crossing_sites n f.groups) (lent n f.groups) m.numbers.now) where
  abbrev p : Program
  p = program_in m

  abbrev l : Plan
  l = m.plan.now

  groups_same : grouped m ≡ code_groups p n f.groups
  groups_same = ap (λ xs. groups_in xs m.numbers.now) cs ∙ groups_made p n f m.numbers.now are

  places_same : places_at m ≡ code_places p n f l
  places_same = sym (places_are m f cs as_)

  both : {X : Type 0} (F : CodeGroups → CodePlaces → X) → F (grouped m) (places_at m) ≡ F (code_groups p n f.groups) (code_places p n f l)
  both F = ap (λ gs. F gs (places_at m)) groups_same ∙ ap (λ at. F (code_groups p n f.groups) at) places_same

  sites_same : (k : ℕ) (ss : List SiteNeed) → site_records_in m k ss ≡ defined.site_records p n f l k ss
  sites_same k [] = refl
  sites_same k (s ∷ ss) =
      let g = func_at p s.func in
      let back : CodeGroups → CodePlaces → ℕ =
      λ gs at. entry_of p gs at s.func + site_offset g (get_or gs.sites s.func []) (length (lends_among (local_starts g) (get_or gs.lends s.func []))) s.block s.inst in
      let made : ℕ → SiteRecord = λ r. record { ret = r; first = k; count = length s.targets } in
      ap (λ r. made r ∷ site_records_in m (k + length s.targets) ss) (both back) ∙ ap (λ rs. made (defined.return_address p n f l s) ∷ rs) (sites_same (k + length s.targets) ss)

  targets_same : (ss : List SiteNeed) → target_records_in m ss ≡ defined.target_records p n f l ss
  targets_same ss =
      let made : List ℕ → CodeGroups → CodePlaces → ℕ → TargetRecord = λ xs gs at h. record { entry = entry_of p gs at h + 1; compartment = get_or xs h 0 } in
      let all : List ℕ → CodeGroups → CodePlaces → List TargetRecord = λ xs gs at. flat_map (λ (s : SiteNeed). map (made xs gs at) s.targets) ss in
      ap (λ xs. all xs (grouped m) (places_at m)) cs ∙ both (all f.groups.of)

  objects_same : object_places m.addresses.now ≡ defined.object_places p n f l
  objects_same =
      let made : List ℕ → List ℕ → List ℕ → Places = λ gs ws es. record { globals = gs; windows = ws; entries = es; sites = []; lends = [] } in
      let a = m.addresses.now in
      let q = planned_places p f l in
      let es : CodeGroups → List ℕ = λ gs. map (entry_of p gs q) (numbers_below (length p.funcs)) in
      ap (λ gs. made gs a.windows a.entries) as_.globals_are ∙ ap (λ ws. made q.globals ws a.entries) as_.windows_are ∙ ap (λ xs. made q.globals q.windows xs) as_.entries_are
      ∙ ap (λ gs. made q.globals q.windows (es gs)) (sym (ap (λ xs. groups_in xs m.numbers.now) cs) ∙ groups_same)

  words_same : (bs : List Filled) → words_in_blocks m bs ≡ defined.words_of p n f l bs
  words_same bs = ap (λ q. flat_map (λ (b : Filled). first_words p q b.globals) bs) objects_same

  begin_same : (slots : ℕ) → words_at_counts l.tables.base slots f.groups.count (length (site_records_in m 0 (crossing_sites n f.groups))) (length (target_records_in m (crossing_sites n f.groups))) (length (lent n f.groups)) f
      ≡ defined.words_begin p n f l slots
  unfolding table_bytes
  begin_same slots = omega (arith, sites_counted m 0 (crossing_sites n f.groups), targets_counted m (crossing_sites n f.groups), filled_counted f)

  pub tables_same : (b : Board) → tables_in m f b (crossing_sites n f.groups) (lent n f.groups) ≡ defined.tables_of p n f l b
  unfolding defined.tables_of
  tables_same b =
      let ss = crossing_sites n f.groups in
      let ls = lent n f.groups in
      let bs = defined.filled f l in
      let comps = map (defined.comp_record p f l (slots_of b)) (numbers_below f.groups.count) in
      let made : List SiteRecord → List TargetRecord → ℕ → List ℕ → ℕ → ℕ → Tables =
      λ sites targets from words main home.
      record {
        base = l.tables.base;
        comps = comps;
        sites = sites;
        targets = targets;
        lends = defined.lend_sizes p ls;
        inits = defined.init_records p from bs;
        words = words;
        stack = l.stack;
        monitor = l.monitor.base;
        main = main;
        main_comp = home;
        closed = b.closed;
      } in
      let home = get_or f.groups.of p.main 0 in
      let main = entry_of p (grouped m) (places_at m) p.main + 1 in
      let from = words_at_counts l.tables.base (slots_of b) f.groups.count (length (site_records_in m 0 ss)) (length (target_records_in m ss)) (length ls) f in
      let sites = defined.site_records p n f l 0 ss in
      let targets = defined.target_records p n f l ss in
      ap (λ x. made x (target_records_in m ss) from (words_in_blocks m bs) main home) (sites_same 0 ss)
      ∙ ap (λ x. made sites x from (words_in_blocks m bs) main home) (targets_same ss)
      ∙ ap (λ x. made sites targets x (words_in_blocks m bs) main home) (begin_same (slots_of b))
      ∙ ap (λ x. made sites targets (defined.words_begin p n f l (slots_of b)) x main home) (words_same bs)
      ∙ ap (λ x. made sites targets (defined.words_begin p n f l (slots_of b)) (defined.words_of p n f l bs) x home) (both (λ gs at. entry_of p gs at p.main + 1))

  pub flash_same : (b : Board) → flash_with m b.flash_base (tables_in m f b (crossing_sites n f.groups) (lent n f.groups)) f.groups.count ≡ flash_of p n f l b
  flash_same b =
      let base = b.flash_base in
      let ns = numbers_below f.groups.count in
      let spot : (c : ℕ) → base_in l c ≡ (compartment_spot l c).base =
      λ c. get_or_mapped (λ (s : Spot). s.base) l.code c no_spot in
      let one : (mem : List ℕ) (c : ℕ) → with_code_of m base mem c ≡ with_code p n f l base mem c =
      λ mem c. ap (λ a. write_all 1 (a - base) (bytes_in m c) mem) (spot c) ∙ ap (λ bs. write_all 1 ((compartment_spot l c).base - base) bs mem) (both (λ gs at. compartment_bytes p gs at c)) in
      ap (λ t. fold (with_code_of m base) (with_tables base t (erased (flash_used l))) ns) (tables_same b)
      ∙ fold_same (with_code_of m base) (with_code p n f l base) one (with_tables base (defined.tables_of p n f l b) (erased (flash_used l))) ns

-- ---- from what the code found

-- the numbers
pub numbers_made : (p : Program) (n : Needs) (f : Final) (sites : List SiteNeed) (ls : List (ℕ × ℕ)) (x : Numbers) → sites ≡ crossing_sites n f.groups → ls ≡ lent n f.groups →
    AreNumbers p sites ls x → AreNumbers p (crossing_sites n f.groups) (lent n f.groups) x
numbers_made p n f sites ls x es el are =
    subst (λ (ys : List SiteNeed). AreNumbers p ys (lent n f.groups) x) es (subst (λ (ys : List (ℕ × ℕ)). AreNumbers p sites ys x) el are)

module _ (m : Making) (n : Needs) (f : Final) (b : Board) (cs : m.compartments.now ≡ f.groups.of) (as_ : AreAddresses (program_in m) f m.plan.now m.numbers.now m.addresses.now)
    (are : AreNumbers (program_in m) (crossing_sites n f.groups) (lent n f.groups) m.numbers.now) (t : Tables) where
  -- the tables
  pub tables_made : (sites : List SiteNeed) (ls : List (ℕ × ℕ)) → sites ≡ crossing_sites n f.groups → ls ≡ lent n f.groups → t ≡ tables_in m f b sites ls →
      t ≡ defined.tables_of (program_in m) n f m.plan.now b
  tables_made sites ls es el et =
      et
      ∙ ap (λ (ys : List SiteNeed). tables_in m f b ys ls) es
      ∙ ap (λ (ys : List (ℕ × ℕ)). tables_in m f b (crossing_sites n f.groups) ys) el
      ∙ tables_same m n f cs as_ are b

  -- and the flash
  pub flash_made : t ≡ defined.tables_of (program_in m) n f m.plan.now b → flash_with m b.flash_base t f.groups.count ≡ flash_of (program_in m) n f m.plan.now b
  flash_made et =
      ap (λ (y : Tables). flash_with m b.flash_base y f.groups.count) (et ∙ sym (tables_same m n f cs as_ are b)) ∙ flash_same m n f cs as_ are b

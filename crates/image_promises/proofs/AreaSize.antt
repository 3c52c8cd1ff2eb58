-- How many words the tables of a planned image have behind the page.
use Rattle.std.proofs.Common.{◌≡◌, ℕ, zero, suc, ◌+◌, ◌*◌, List, [], ◌∷◌, ◌++◌, length, map, flat_map, refl, ap, subst, arith, length-append}
use Rattle.base_laws.specs.Lists.{Each}
use Rattle.machine_protection.specs.declared.region.Region.{Region}
use Rattle.ir_model.specs.Resolved.{Program}
use Rattle.plan_model.specs.declared.needs.Needs.{Needs}
use Rattle.plan_model.specs.declared.graph.Final.{Final}
use Rattle.plan_model.specs.declared.plan.Plan.{Plan}
use Rattle.plan_model.specs.declared.plan.Board.{Board}
use Rattle.plan_model.specs.Boards.{slots_of}
use Rattle.plan_model.specs.Lists.{numbers_below}
use Rattle.plan_model.specs.Slots.{SlotUse, slots_from, slot_uses, slot_regions}
use Rattle.plan_model.specs.TableSize.{table_bytes}
use Rattle.monitor_model.specs.declared.tables.CompRecord.{CompRecord}
use Rattle.monitor_model.specs.declared.tables.SiteRecord.{SiteRecord}
use Rattle.monitor_model.specs.declared.tables.TargetRecord.{TargetRecord}
use Rattle.monitor_model.specs.declared.tables.InitRecord.{InitRecord}
use Rattle.monitor_model.specs.Area.{region_words, compartment_words, site_words, target_words, init_words, area}
use Rattle.monitor_laws.proofs.FlashWords.{records_length}
use Rattle.image_model.specs.Laws.{CountsAgree}
use Rattle.image_model.specs.LinkedTables.{comp_record, tables_of}
use Rattle.base_laws.proofs.Lists.{each_of as each}

slots_counted : (n k : ℕ) (us : List SlotUse) → length (slots_from n k us) ≡ k
slots_counted n zero us = refl
slots_counted n (suc k) [] = ap suc (slots_counted (suc n) k [])
slots_counted n (suc k) (u ∷ us) = ap suc (slots_counted (suc n) k us)

pub slot_count : (p : Program) (f : Final) (l : Plan) (slots c : ℕ) → length (comp_record p f l slots c).slots ≡ slots
unfolding slot_regions
slot_count p f l slots c = slots_counted 4 slots (slot_uses p f l c)

each_mapped : {A : Type 0} (P : A → Type 0) (g : ℕ → A) → ((k : ℕ) → P (g k)) → (xs : List ℕ) → Each P (map g xs)
each_mapped P g h [] = tt
each_mapped P g h (x ∷ xs) = (h x, each_mapped P g h xs)

comp_length : (c : CompRecord) (slots : ℕ) → length c.slots ≡ slots → length (compartment_words c) ≡ 2 * slots + 4
comp_length c slots e =
    let a = records_length region_words 2 c.slots (each (λ (g : Region). length (region_words g) ≡ 2) (λ g. refl) c.slots) in
    let d = length-append (flat_map region_words c.slots) (c.mask ∷ c.reads ∷ []) in
    omega (arith, a, d, e)

comps_long : (p : Program) (n : Needs) (f : Final) (l : Plan) (b : Board) → Each (λ c. length (compartment_words c) ≡ 2 * slots_of b + 4) (tables_of p n f l b).comps
unfolding tables_of
comps_long p n f l b =
    each_mapped (λ (c : CompRecord). length (compartment_words c) ≡ 2 * slots_of b + 4) (comp_record p f l (slots_of b))
    (λ c. comp_length (comp_record p f l (slots_of b) c) (slots_of b) (slot_count p f l (slots_of b) c)) (numbers_below f.groups.count)

pub area_size : CountsAgree → (p : Program) (n : Needs) (f : Final) (l : Plan) (b : Board) → 4 * length (area (tables_of p n f l b)) + 4096 ≡ table_bytes p n f (slots_of b)
unfolding table_bytes
area_size law p n f l b =
    let t = tables_of p n f l b in
    let slots = slots_of b in
    let c = records_length compartment_words (2 * slots + 4) t.comps (comps_long p n f l b) in
    let s = records_length site_words 3 t.sites (each (λ (x : SiteRecord). length (site_words x) ≡ 3) (λ x. refl) t.sites) in
    let g = records_length target_words 2 t.targets (each (λ (x : TargetRecord). length (target_words x) ≡ 2) (λ x. refl) t.targets) in
    let i = records_length init_words 3 t.inits (each (λ (x : InitRecord). length (init_words x) ≡ 3) (λ x. refl) t.inits) in
    let e1 = length-append (flat_map init_words t.inits) t.words in
    let e2 = length-append t.lends (flat_map init_words t.inits ++ t.words) in
    let e3 = length-append (flat_map target_words t.targets) (t.lends ++ (flat_map init_words t.inits ++ t.words)) in
    let e4 = length-append (flat_map site_words t.sites) (flat_map target_words t.targets ++ (t.lends ++ (flat_map init_words t.inits ++ t.words))) in
    let e5 = length-append (flat_map compartment_words t.comps) (flat_map site_words t.sites ++ (flat_map target_words t.targets ++ (t.lends ++ (flat_map init_words t.inits ++ t.words)))) in
    let n1 = law.comps p n f l b in
    let n2 = law.sites p n f l b in
    let n3 = law.targets p n f l b in
    let n4 = law.lends p n f l b in
    let n5 = law.inits p n f l b in
    let n6 = law.words p n f l b in
    let q : 4 * ((2 * slots + 4) * length t.comps) ≡ (8 * slots + 16) * f.groups.count = subst (λ z. 4 * ((2 * slots + 4) * length t.comps) ≡ (8 * slots + 16) * z) n1 (four slots (length t.comps)) in
    omega (arith, c, s, g, i, e1, e2, e3, e4, e5, n2, n3, n4, n5, n6, q)
  where
    four : (a b : ℕ) → 4 * ((2 * a + 4) * b) ≡ (8 * a + 16) * b
    four a b = grind arith

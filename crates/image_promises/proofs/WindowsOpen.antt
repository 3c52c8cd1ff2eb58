-- The windows of the peripherals that a compartment needs are open to it.
use Rattle.std.proofs.Common.{◌≡◌, ℕ, ◌<◌, ◌≤◌, ◌+◌, ◌-◌, ◌/◌, ◌%◌, inl, inr, Bool, true, false, ◌&&◌, ◌||◌, List, [], ◌∷◌, length, map, filter, get_or, nat_eq, nat_lt, nat_le, refl, ap, ◌∙◌, subst, eq-eqb, lit<, arith}
use Rattle.std.specs.List.{list_any, Contains}
use Rattle.std.proofs.Math.Pow.{pow_mono}
use Rattle.std.proofs.lemmas.Bool.{leb-true, le-leb, and_from as both, or_left, or_right}
use Rattle.std.proofs.lemmas.Nat.Bits.{bit_at-zero}
use Rattle.std.proofs.lemmas.List.Folds.{list_any-from_Any}
use Rattle.std.proofs.lemmas.List.FromFn.{get_or-map-range_with_len}
use Rattle.machine_protection.specs.declared.region.Region.{Region}
use Rattle.machine_protection.specs.declared.words.Rights.TheVariants.{Device}
use Rattle.machine_protection.specs.Regions.{holds}
use Rattle.machine_protection.specs.Laws.{RegionsHoldTheirBlocks, RegionsGiveTheirRights}
use Rattle.ir_model.specs.declared.object.ObjId.{ObjId}
use Rattle.ir_model.specs.Resolve.{resolve}
use Rattle.ir_model.specs.Resolved.{Program, window_at}
use Rattle.ir_model.specs.State.{PeriphObject}
use Rattle.ir_laws.specs.Sets.{ObjectSets, IsRead, IsWritten}
use Rattle.ir_laws.specs.Limits.{WindowsLieApart}
use Rattle.plan_model.specs.declared.needs.Needs.{Needs}
use Rattle.plan_model.specs.declared.groups.Groups.{Groups}
use Rattle.plan_model.specs.declared.graph.Cover.{Cover}
use Rattle.plan_model.specs.declared.graph.Final.{Final}
use Rattle.plan_model.specs.Boards.{slots_of}
use Rattle.plan_model.specs.Lists.{numbers_below, has}
use Rattle.plan_model.specs.Needs.{need_of, AreNeeds}
use Rattle.plan_model.specs.Groups.{compartment_of, uses}
use Rattle.plan_model.specs.Regions.{regions_used}
use Rattle.plan_model.specs.Covers.{is_inside, end_of}
use Rattle.plan_model.specs.InitialGraph.{cover_of, covers_of, initial_graph}
use Rattle.plan_model.specs.Slots.{SlotUse, cover_slot, data_slot, slot_uses}
use Rattle.need_laws.specs.Reached.{IsListed}
use Rattle.monitor_model.specs.Records.{compartment_at}
use Rattle.monitor_model.specs.Setting.{may_load, may_store, allows_stores}
use Rattle.machine_protection.specs.Protection.{deciding}
use Rattle.image_promises.specs.Planned.{planned_tables, planned_image}
use Rattle.plan.specs.PlannedFirmwares.{plan}
use Rattle.image_promises.specs.Parts.{WindowsAreOpen}
use Rattle.image_promises.proofs.FinalGraphs.{FinalGraph}
use Rattle.image_promises.proofs.PlannedPremises.{PlannedPremises, planned_of, final_graph_of}
use Rattle.image_promises.proofs.PlannedSlots.{FitsSlots, slot_limits, slots_at, few_uses}
use Rattle.image_promises.proofs.Bearing.{Bears, Borne, here, there, Written, this, behind, written_behind, borne_holds, written_stores, cover_lets, covers_harmless}
use Rattle.image_promises.proofs.Covers.{stays_all}
use Rattle.image_promises.proofs.CoverParts.{IsPart, AreParts}
use Rattle.image_promises.proofs.CoverSlots.{covers_are_parts}
use Rattle.image_promises.proofs.Compartments.{in_compartment}
use Rattle.image_promises.proofs.Reach.{one_of}
use Rattle.base_laws.proofs.Lists.{any_kept as any_filtered}
use Rattle.plan_model.proofs.Numbers.{one_passes}
use Rattle.plan_model.proofs.Orders.{any_in_order}

-- ---- needs

pub periph_has : (qs : List ℕ) (q : ℕ) → Contains qs q → has qs q ≡ true
periph_has qs q c = list_any-from_Any (λ m. nat_eq m q) qs (c.0, q, c.1, c.2, eq-eqb q q refl)

module _ (p : Program) (S : ObjectSets) (closed : Bool) (n : Needs) (are : AreNeeds p S closed n) (g : ℕ) (below : g < length p.funcs) (q : ℕ) where
  pub read_uses : IsListed (need_of n g).read (PeriphObject q) → has (need_of n g).periphs q ≡ true
  read_uses i =
      let need = are.funcs g below in
      let x : ObjId = i.0 in
      let reads : IsRead p S g (PeriphObject q) = subst (λ o. IsRead p S g o) i.2 ((need.read.each x i.1).1) in
      periph_has (need_of n g).periphs q (need.periphs.all q (inr reads))

  pub written_uses : IsListed (need_of n g).written (PeriphObject q) → has (need_of n g).periphs q ≡ true
  written_uses i =
      let need = are.funcs g below in
      let x : ObjId = i.0 in
      let writes : IsWritten p S g (PeriphObject q) = subst (λ o. IsWritten p S g o) i.2 ((need.written.each x i.1).1) in
      periph_has (need_of n g).periphs q (need.periphs.all q (inl writes))

-- ---- the first graph

any_mapped : {X Y : Type 0} (p : Y → Bool) (f : X → Y) (xs : List X) → list_any p (map f xs) ≡ list_any (λ x. p (f x)) xs
any_mapped p f [] = refl
any_mapped p f (x ∷ xs) = ap (λ b. p (f x) || b) (any_mapped p f xs)

inside_itself : (c : Cover) → is_inside c c ≡ true
inside_itself c = both (nat_le c.base c.base) (nat_le (end_of c) (end_of c)) (le-leb c.base c.base (omega arith)) (le-leb (end_of c) (end_of c) (omega arith))

module _ (p : Program) (n : Needs) (g : Groups) (c : ℕ) where
  first_covered : (q : ℕ) → q < length p.periphs → uses n g c q ≡ true → list_any (is_inside (cover_of p q)) (covers_of p n g c) ≡ true
  first_covered q l u =
      any_in_order (is_inside (cover_of p q)) (λ (a b : Cover). nat_lt a.base b.base) (map (cover_of p) (filter (uses n g c) (numbers_below (length p.periphs))))
      ∙ (any_mapped (is_inside (cover_of p q)) (cover_of p) (filter (uses n g c) (numbers_below (length p.periphs)))
      ∙ (any_filtered (λ r. is_inside (cover_of p q) (cover_of p r)) (uses n g c) (numbers_below (length p.periphs))
      ∙ one_passes (λ r. uses n g c r && is_inside (cover_of p q) (cover_of p r)) q (length p.periphs) l
      (both (uses n g c q) (is_inside (cover_of p q) (cover_of p q)) u (inside_itself (cover_of p q)))))

-- ---- the final graph

first_at : (p : Program) (n : Needs) (g : Groups) (c : ℕ) → c < g.count → get_or (initial_graph p n g).covers c [] ≡ covers_of p n g c
unfolding initial_graph
first_at p n g c l = get_or-map-range_with_len (covers_of p n g) 0 g.count c c [] l (omega arith)

module _ (graph : FinalGraph) where
  open graph use {program as p, needs as n, final as f, slots, is_final as final}

  covers_are : (c : ℕ) → get_or f.covers c [] ≡ get_or final.last.covers c []
  covers_are c = ap (λ (x : Final). get_or x.covers c []) final.is

  pub covered : (c q : ℕ) → c < f.groups.count → q < length p.periphs → uses n f.groups c q ≡ true → list_any (is_inside (cover_of p q)) (get_or f.covers c []) ≡ true
  covered c q l m u =
      ap (list_any (is_inside (cover_of p q))) (covers_are c)
      ∙ stays_all p slots (initial_graph p n f.groups) final.last final.reached c (cover_of p q)
      (ap (list_any (is_inside (cover_of p q))) (first_at p n f.groups c l) ∙ first_covered p n f.groups c q m u)

-- ---- slots

module _ (held : RegionsHoldTheirBlocks) (given : RegionsGiveTheirRights) (a : ℕ) where
  cover_bears : (d : Cover) → IsPart d → d.base ≤ a → a < d.base + d.size → Bears a (cover_slot d)
  cover_bears d i from to m l =
      let low = pow_mono {i = 5} {j = i.power} i.least in
      let high = pow_mono {i = i.power} {j = 29} i.most in
      let size = i.size in
      let whole : d.base % d.size ≡ 0 = ap (λ s. d.base % s) size ∙ i.aligned in
      (held m d.base d.size 0 Device l (i.power, size) (omega (arith, low, size)) (omega (arith, high, size)) whole (lit< tt) a).1
      (record { from_base = from; below_end = to; not_taken_out = λ g. bit_at-zero ((a - d.base) / (d.size / 8)) })

  inside_parts : (x d : Cover) → is_inside x d ≡ true → x.base ≤ a → a < end_of x → (d.base ≤ a) × (a < d.base + d.size)
  inside_parts x d e from to =
      let parts = and_split (nat_le d.base x.base) (nat_le (end_of x) (end_of d)) e in
      let one = leb-true d.base x.base parts.0 in
      let two = leb-true (end_of x) (end_of d) parts.1 in (
        omega (arith, one, from),
        omega (arith, two, to),
      )
    where
      and_split : (b c : Bool) → (b && c) ≡ true → (b ≡ true) × (c ≡ true)
      and_split true c e = (refl, e)
      and_split false c e = absurd (let wrong : false ≡ true = e in cc)

  written_cover : (x : Cover) (ds : List Cover) → AreParts ds → x.base ≤ a → a < end_of x → list_any (is_inside x) ds ≡ true → Written a (map cover_slot ds)
  written_cover x [] e from to t = absurd (let wrong : false ≡ true = t in cc)
  written_cover x (d ∷ ds) e from to t = by (is_inside x d) refl t (written_cover x ds e.1 from to)
    where
      by : (b : Bool) → is_inside x d ≡ b → (b || list_any (is_inside x) ds) ≡ true → (list_any (is_inside x) ds ≡ true → Written a (map cover_slot ds)) → Written a (cover_slot d ∷ map cover_slot ds)
      by true i t ih = let h = inside_parts x d i from to in this (cover_bears d e.0 h.0 h.1) (cover_lets given a d) (covers_harmless given a ds)
      by false i t ih = behind (ih t)

  written_borne : (us : List SlotUse) → Written a us → Borne a us
  written_borne [] w = elim w [ ]
  written_borne (u ∷ us) (this b h e) = here b
  written_borne (u ∷ us) (behind w) = there (written_borne us w)

-- ---- the tables

-- what open windows rest on
pub record WindowLaws : Type 0 where
  pub held : RegionsHoldTheirBlocks
  pub given : RegionsGiveTheirRights
  pub apart : WindowsLieApart
  pub few : FitsSlots

module _ (law : WindowLaws) (planned : PlannedPremises) where
  open law use {held, given, apart, few}
  open planned use {firmware as w, needs as n, final as f, board as b, is_planned as is}

  abbrev p : Program
  p = resolve w

  slots_written : (g q j : ℕ) → g < length p.funcs → has (need_of n g).periphs q ≡ true → q < length p.periphs → j < (window_at p q).size
      → Written ((window_at p q).base + j) (slot_uses p f (plan w n f b) (compartment_of f.groups g))
  slots_written g q j l h m s =
      let c = compartment_of f.groups g in
      let a : ℕ = (window_at p q).base + j in
      let inn = in_compartment p f.groups is.groups g l in
      let used : uses n f.groups c q ≡ true = one_of f.groups (λ y. has (need_of n y).periphs q) g inn.listed h in
      let windows = apart w is.typed in
      written_behind a (map (data_slot p f (plan w n f b) c) (regions_used f.regions c)) (map cover_slot (get_or f.covers c []))
      (written_cover held given a (cover_of p q) (get_or f.covers c []) (covers_are_parts (final_graph_of planned) windows c) (omega arith) (omega (arith, s))
      (covered (final_graph_of planned) c q inn.below m used))

  window_loads : (g q j : ℕ) → g < length p.funcs → has (need_of n g).periphs q ≡ true → q < length p.periphs → j < (window_at p q).size
      → may_load (planned_image w n f b) (planned_tables w n f b) (compartment_of f.groups g) ((window_at p q).base + j) ≡ true
  unfolding may_load
  window_loads g q j l h m s =
      let c = compartment_of f.groups g in
      let a : ℕ = (window_at p q).base + j in
      let inn = in_compartment p f.groups is.groups g l in
      or_right _ _
      (or_left (list_any (λ (r : Region). holds r a) (compartment_at (planned_tables w n f b) c).slots) _
      (ap (list_any (λ (r : Region). holds r a)) (slots_at planned c inn.below)
      ∙ borne_holds a (slot_uses p f (plan w n f b) c) 4 (slots_of b) (written_borne held given a (slot_uses p f (plan w n f b) c) (slots_written g q j l h m s)) (few_uses few planned c inn.below) (slot_limits planned).1))

  window_stores : (g q j : ℕ) → g < length p.funcs → has (need_of n g).periphs q ≡ true → q < length p.periphs → j < (window_at p q).size
      → may_store (planned_tables w n f b) (compartment_of f.groups g) ((window_at p q).base + j) ≡ true
  unfolding may_store
  window_stores g q j l h m s =
      let c = compartment_of f.groups g in
      let a : ℕ = (window_at p q).base + j in
      let inn = in_compartment p f.groups is.groups g l in
      ap (λ gs. allows_stores (deciding gs a)) (slots_at planned c inn.below)
      ∙ written_stores a (slot_uses p f (plan w n f b) c) 4 (slots_of b) (slots_written g q j l h m s) (few_uses few planned c inn.below) (slot_limits planned).1

pub windows_are_open : WindowLaws → WindowsAreOpen
windows_are_open law code w n f b is = record {
  loads = λ g q j l i m s. window_loads law (planned_of is) g q j l (read_uses (resolve w) is.sets b.closed n is.needs g l q i) m s;
  stores = λ g q j l i m s. window_stores law (planned_of is) g q j l (written_uses (resolve w) is.sets b.closed n is.needs g l q i) m s;
}

-- In a plan no two blocks of RAM hold the same address.
use Rattle.std.proofs.Common.{◌≡◌, ◌≢◌, ℕ, ◌+◌, ◌<◌, ◌≤◌, List, ◌∷◌, length, refl, get_or, map, nat_lt, sym, ap, subst, ◌∙◌, arith}
use Rattle.std.specs.Prelude.{unwrap_or}
use Rattle.std.proofs.lemmas.Bool.{cases_lt}
use Rattle.std.proofs.lemmas.List.{get_or_past}
use Rattle.std.proofs.lemmas.List.FromFn.{length-map-range_with_len, get_or-map-range_with_len}
use mathlib.Core.Logic.{⊎_elim}
use Rattle.ir_model.specs.Resolved.{Program}
use Rattle.plan_model.specs.declared.graph.Final.{Final}
use Rattle.plan_model.specs.declared.plan.Board.{Board}
use Rattle.plan_model.specs.declared.plan.Lowest.{Lowest}
use Rattle.plan_model.specs.declared.plan.Lowest.TheVariants.{Largest, Stack}
use Rattle.plan_model.specs.declared.plan.Sizes.{Sizes}
use Rattle.plan_model.specs.declared.plan.Spot.{Spot}
use Rattle.plan_model.specs.Blocks.{region_bytes}
use Rattle.plan_model.specs.Lists.{numbers_below}
use Rattle.plan_model.specs.Regions.{region_at}
use Rattle.plan_model.specs.RamBlocks.{RamUse, ForStack, ForMonitor, ForRegion, ForUnwritten, RamBlock, full_block, other_blocks, ram_blocks, falling}
use Rattle.plan_model.specs.RamPlacement.{Ram, PlacedBlock, ram_by, ram_of}
use Rattle.plan_model.specs.Placement.{plan_of, placed_for, region_spot, no_spot}
use Rattle.plan_layout_laws.specs.RamLaws.{open_bytes, IsAmong, HoldsAddress, RamIsApart}
use Rattle.plan_layout_laws.proofs.Filling.{Entry, placed, Filled, filled_all, filled_behind}
use Rattle.plan_layout_laws.proofs.Hits.{held}
use Rattle.plan_layout_laws.proofs.Uses.{use_block, AreOwn, others_own, all_own, ordered_own, positive, own_at, no_entry, InEntry, IsFound, spot_in, found, hit_twice}

-- all blocks of RAM but the stack, the largest first
abbrev pub falling_others : Program → Final → List RamBlock
falling_others p f = falling (other_blocks p f)

module _ (p : Program) (f : Final) (s : Sizes) (b : Board) where
  abbrev pub ram : Ram
  ram = ram_of p f b

  -- the blocks in the order in which they are placed
  abbrev pub order_by : Lowest → List RamBlock
  order_by Largest = falling (ram_blocks p f b.stack)
  order_by Stack = full_block ForStack b.stack ∷ falling_others p f

  abbrev pub blocks : List RamBlock
  blocks = order_by b.lowest

  pub falling_own : AreOwn p f b.stack (falling_others p f)
  falling_own = ordered_own p f b.stack (λ (c d : RamBlock). nat_lt d.size c.size) (other_blocks p f) (others_own p f b.stack)

  own_by : (l : Lowest) → AreOwn p f b.stack (order_by l)
  own_by Largest = ordered_own p f b.stack (λ (c d : RamBlock). nat_lt d.size c.size) (ram_blocks p f b.stack) (all_own p f b.stack)
  own_by Stack = (refl, falling_own)

  pub own : AreOwn p f b.stack blocks
  own = own_by b.lowest

  whole_by : (l : Lowest) → Filled b.ram_base (ram_by p f b l) (order_by l)
  whole_by Largest = filled_all b.ram_base (order_by Largest) (positive p f b.stack (order_by Largest) (own_by Largest))
  whole_by Stack = filled_behind b.ram_base b.stack (falling_others p f) (positive p f b.stack (falling_others p f) falling_own)

  pub whole : Filled b.ram_base ram blocks
  unfolding ram_of
  whole = whole_by b.lowest

  abbrev pub entries : List Entry
  entries = whole.entries

  -- how much of its block a use holds
  abbrev amount : RamUse → Spot → ℕ
  amount ForStack t = t.size
  amount ForMonitor t = t.size
  amount (ForRegion r) t = open_bytes t.size (region_bytes p (region_at f.regions r).globals)
  amount ForUnwritten t = open_bytes t.size (region_bytes p f.unwritten)

  nothing : (u : RamUse) (x : ℕ) → IsAmong no_spot (amount u no_spot) x → ⊥
  nothing ForStack x h = let l = h.1 in omega arith
  nothing ForMonitor x h = let l = h.1 in omega arith
  nothing (ForRegion r) x h = let l = h.1 in omega arith
  nothing ForUnwritten x h = let l = h.1 in omega arith

  amount_is : (u : RamUse) (t : Spot) (c : RamBlock) → c ≡ use_block p f b.stack u → t.size ≡ c.size → amount u t ≡ held c
  amount_is ForStack t c o z = z ∙ (ap (λ (d : RamBlock). d.size) o ∙ sym (ap held o))
  amount_is ForMonitor t c o z = z ∙ (ap (λ (d : RamBlock). d.size) o ∙ sym (ap held o))
  amount_is (ForRegion r) t c o z = ap (λ (n : ℕ). open_bytes n (region_bytes p (region_at f.regions r).globals)) (z ∙ ap (λ (d : RamBlock). d.size) o) ∙ sym (ap held o)
  amount_is ForUnwritten t c o z = ap (λ (n : ℕ). open_bytes n (region_bytes p f.unwritten)) (z ∙ ap (λ (d : RamBlock). d.size) o) ∙ sym (ap held o)

  -- an address that a use holds is in its entry
  record InOne (u : RamUse) (x : ℕ) : Type 0 where
    number : ℕ
    there : number < length entries
    use_is : (get_or entries number no_entry).block.use_of ≡ u
    holds : InEntry (get_or entries number no_entry) x

  in_found : (u : RamUse) (x : ℕ) (t : Spot) → IsFound entries u t → IsAmong t (amount u t) x → InOne u x
  in_found u x t g h =
      let e : Entry = get_or entries g.number no_entry in
      let o = own_at p f b.stack entries g.number no_entry (subst (λ (cs : List RamBlock). AreOwn p f b.stack cs) (sym whole.are) own) g.there ∙ ap (use_block p f b.stack) g.use_is in
      let a = amount_is u t e.block o g.size_is in
      let z = g.base_is in
      let l = h.0 in
      let m = h.1 in
      let low : e.base ≤ x = omega arith in
      let high : x < e.base + held e.block = omega arith in
      record { number = g.number; there = g.there; use_is = g.use_is; holds = (low, high) }

  in_entry : (u : RamUse) (x : ℕ) (t : Spot) → t ≡ unwrap_or (spot_in (map placed entries) u) no_spot → IsAmong t (amount u t) x → InOne u x
  in_entry u x t e h =
      let there = subst (λ (q : Spot). IsAmong q (amount u q) x) e h in
      ⊎_elim
      (λ n. absurd (nothing u x (subst (λ (q : Spot). IsAmong q (amount u q) x) n there)))
      (λ g. in_found u x (unwrap_or (spot_in (map placed entries) u) no_spot) g there)
      (found entries u)

  pub by_entries : (u : RamUse) → placed_for ram u ≡ unwrap_or (spot_in (map placed entries) u) no_spot
  by_entries u = ap (λ (bs : List PlacedBlock). unwrap_or (spot_in bs u) no_spot) whole.fair.blocks

  abbrev pub count : ℕ
  count = length f.regions

  pub region_there : (r : ℕ) → r < count → region_spot (plan_of p f s b) r ≡ placed_for ram (ForRegion r)
  unfolding plan_of
  region_there r l = get_or-map-range_with_len (λ (q : ℕ). placed_for ram (ForRegion q)) 0 count r r no_spot l (omega arith)

  pub region_missing : (r : ℕ) → count ≤ r → region_spot (plan_of p f s b) r ≡ no_spot
  unfolding plan_of
  region_missing r l =
      let n = length-map-range_with_len (λ (q : ℕ). placed_for ram (ForRegion q)) 0 count in
      get_or_past (map (λ (q : ℕ). placed_for ram (ForRegion q)) (numbers_below count)) r no_spot (omega arith)

  in_plan : (u : RamUse) (x : ℕ) → HoldsAddress p f (plan_of p f s b) u x → InOne u x
  unfolding plan_of
  in_plan ForStack x h = in_entry ForStack x (placed_for ram ForStack) (by_entries ForStack) h
  in_plan ForMonitor x h = in_entry ForMonitor x (placed_for ram ForMonitor) (by_entries ForMonitor) h
  in_plan ForUnwritten x h = in_entry ForUnwritten x (placed_for ram ForUnwritten) (by_entries ForUnwritten) h
  in_plan (ForRegion r) x h =
      ⊎_elim
      (λ l. in_entry (ForRegion r) x (region_spot (plan_of p f s b) r) (region_there r l ∙ by_entries (ForRegion r)) h)
      (λ l. absurd (nothing (ForRegion r) x (subst (λ (q : Spot). IsAmong q (amount (ForRegion r) q) x) (region_missing r l) h)))
      (cases_lt r count)

  two : (u v : RamUse) (x : ℕ) → u ≢ v → InOne u x → InOne v x → ⊥
  two u v x ne h k =
      let once = whole.fair.once x in
      ⊎_elim
      (λ l. let twice = hit_twice entries h.number k.number x l k.there h.holds k.holds in absurd (omega arith))
      (λ m. ⊎_elim
      (λ l. let twice = hit_twice entries k.number h.number x l h.there k.holds h.holds in absurd (omega arith))
      (λ n. let same : h.number ≡ k.number = omega arith in ne (sym h.use_is ∙ (ap (λ (i : ℕ). (get_or entries i no_entry).block.use_of) same ∙ k.use_is)))
      (cases_lt k.number h.number))
      (cases_lt h.number k.number)

pub ram_is_apart : RamIsApart
ram_is_apart p f s b u v x ne h k = two p f s b u v x ne (in_plan p f s b u x h) (in_plan p f s b v x k)

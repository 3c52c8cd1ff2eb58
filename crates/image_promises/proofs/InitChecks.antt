-- The check of the blocks that start-up fills passes.
use Rattle.std.proofs.Common.{◌||◌, eq-eqb, ◌≡◌, ◌≢◌, ℕ, ◌+◌, ◌-◌, ◌*◌, ◌/◌, ◌%◌, ◌^◌, ◌<◌, ◌≤◌, true, List, [], ◌∷◌, length, map, None, refl, sym, ap, ◌∙◌, subst, lit<, arith}
use Rattle.base_laws.specs.Lists.{Each}
use Rattle.machine_devices.specs.declared.image.Image.{Image}
use Rattle.base_ranges.specs.Ranges.{IsInside, AreApart}
use Rattle.machine_devices.specs.Rules.{block_size}
use Rattle.ir_model.specs.Resolved.{Program}
use Rattle.ir_model.specs.Resolve.{resolve}
use Rattle.ir_laws.specs.Typed.{TypedOverNumbers}
use Rattle.plan_model.specs.declared.plan.Plan.{Plan}
use Rattle.plan_model.specs.declared.plan.Sizes.{Sizes}
use Rattle.plan_model.specs.Boards.{slots_of}
use Rattle.plan_model.specs.Lists.{has}
use Rattle.plan_model.specs.Regions.{region_at}
use Rattle.plan_model.specs.Blocks.{block_size_for, region_bytes}
use Rattle.plan_model.specs.TableSize.{words_in}
use Rattle.plan_model.specs.RamBlocks.{RamUse, ForStack, ForMonitor, ForRegion, ForUnwritten}
use Rattle.plan_layout_laws.specs.GlobalLaws.{GlobalsAreLaid}
use Rattle.plan_layout_laws.specs.RamPlaces.{block_for}
use Rattle.monitor_model.specs.declared.tables.Tables.{Tables}
use Rattle.monitor_model.specs.Layout.{initial_words_at, inits_at}
use Rattle.monitor_model.specs.RegionChecks.{is_data_range}
use Rattle.monitor_model.specs.Checks.{is_init, inits_from, inits_fail}
use Rattle.image_model.specs.LinkedTables.{init_records, words_begin, tables_of}
use Rattle.image_model.specs.LinkedImage.{linked}
use Rattle.image_promises.specs.Planned.{planned_tables, planned_image}
use Rattle.plan.specs.PlannedFirmwares.{planned_sizes, plan}
use Rattle.image_promises.proofs.PlannedPremises.{PlannedPremises, final_graph_of}
use Rattle.image_promises.proofs.Facts.{stack_size_is, stack_least, monitor_size_is}
use Rattle.plan_model.proofs.Powers.{small_block}
use Rattle.image_promises.proofs.OpenBytes.{words_held}
use Rattle.image_promises.proofs.Passing.{and_yes, eq_yes, lt_yes, data_yes, must_yes, then_yes, apart_from}
use Rattle.image_promises.proofs.Ranges.{IsUse, globals_for, filled_for, filled_is, uses_are, block_in, small, use_bytes, open_room, holds_it, shorter_apart}
use Rattle.image_promises.proofs.AreaEnd.{initial_words_are, end_is, has_compartments}
use Rattle.image_promises.proofs.ReadBack.{ReadLaws}
use Rattle.image_promises.proofs.ObjectSizes.{global_is_large}
use Rattle.ir_laws.proofs.GlobalShapes.{global_shaped}
use Rattle.image_promises.proofs.FinalRegions as regions
use Rattle.base_laws.proofs.Multiples.{multiple_of}
use Rattle.base_laws.proofs.Powers.{power_split}

-- the check of one record
passes : (i : Image) (t : Tables) (base count from : ℕ) → base % 4 ≡ 0 → 0 < count → IsInside base (4 * count) i.ram_base i.ram_size → AreApart base (4 * count) t.stack.base t.stack.size
    → AreApart base (4 * count) t.monitor block_size → is_init i t from (record { at = base; end = base + 4 * count; from = from }) ≡ true
passes i t a k w even some ins stack mon =
    let s : 4 * k ≡ a + 4 * k - a = omega arith in
    and_yes (eq_yes {a = a % 4} {b = 0} even)
    (and_yes (eq_yes {a = (a + 4 * k) % 4} {b = 0} (omega (arith, even)))
    (and_yes (lt_yes {a = a} {b = a + 4 * k} (omega (arith, some)))
    (and_yes (subst (λ z. is_data_range i t a z ≡ true) s (data_yes i t a (4 * k) ins stack mon)) (eq_yes {a = w} {b = w} refl))))

module _ (law : ReadLaws) (typing : TypedOverNumbers) (laid : GlobalsAreLaid) (planned : PlannedPremises) where
  open planned use {firmware as w, needs as n, final as f, board as b, is_planned as ok}

  abbrev p : Program
  p = resolve w

  abbrev s : Sizes
  s = planned_sizes w n f b

  abbrev l : Plan
  l = plan w n f b

  abbrev t : Tables
  t = planned_tables w n f b

  abbrev i : Image
  i = planned_image w n f b

  abbrev words : RamUse → ℕ
  words u = words_in p (globals_for f u)

  abbrev base : RamUse → ℕ
  base u = (block_for l u).base

  -- ---- where a block lies

  held : (u : RamUse) → IsUse f u → (4 * words u ≤ open_room planned u) × (0 < open_room planned u)
  held u h = words_held (use_bytes planned u) (small law.plans planned u h)

  no_stack : (u : RamUse) → IsUse f u → u ≢ ForStack
  no_stack ForStack h = absurd h.of_globals
  no_stack ForMonitor h = absurd h.of_globals
  no_stack (ForRegion r) h = λ e. cc
  no_stack ForUnwritten h = λ e. cc

  no_monitor : (u : RamUse) → IsUse f u → u ≢ ForMonitor
  no_monitor ForStack h = absurd h.of_globals
  no_monitor ForMonitor h = absurd h.of_globals
  no_monitor (ForRegion r) h = λ e. cc
  no_monitor ForUnwritten h = λ e. cc

  off_stack : (u : RamUse) → IsUse f u → AreApart (base u) (4 * words u) l.stack.base l.stack.size
  off_stack u h =
      let e = held u h in
      let z = stack_size_is law.plans planned in
      let least = stack_least law.plans planned in
      shorter_apart (base u) (4 * words u) (open_room planned u) l.stack.base l.stack.size l.stack.size e.0 (omega arith)
      (apart_from (base u) (open_room planned u) l.stack.base l.stack.size e.1 (omega (arith, z, least))
      (λ x a c d g. law.plans.apart p f s b u ForStack x (no_stack u h) (holds_it law.plans planned u h x a c) (d, g)))

  off_monitor : (u : RamUse) → IsUse f u → AreApart (base u) (4 * words u) l.monitor.base 1024
  off_monitor u h =
      let e = held u h in
      let z = monitor_size_is law.plans planned in
      shorter_apart (base u) (4 * words u) (open_room planned u) l.monitor.base 1024 1024 e.0 (omega arith)
      (apart_from (base u) (open_room planned u) l.monitor.base 1024 e.1 (lit< tt)
      (λ x a c d g. law.plans.apart p f s b u ForMonitor x (no_monitor u h) (holds_it law.plans planned u h x a c) (d, omega (arith, g, z))))

  even : (u : RamUse) → IsUse f u → base u % 4 ≡ 0
  even u h =
      let power = (small_block (use_bytes planned u) (small law.plans planned u h)).0 in
      let five = power.1 in
      multiple_of (base u) 4 (2 ^ (power.0 - 2)) (block_size_for (use_bytes planned u)) (power.3 ∙ power_split 2 power.0 (omega (arith, five))) (block_in law.plans planned u h).1

  words_fit : (bytes size : ℕ) → bytes ≤ size → size % 4 ≡ 0 → 4 * ((bytes + 3) / 4 * 4 / 4) ≤ size
  words_fit n z le m = omega (arith, le, m)

  inside : (u : RamUse) → IsUse f u → IsInside (base u) (4 * words u) b.ram_base b.ram_size
  inside u h =
      let ins = (block_in law.plans planned u h).0 in
      let is = small_block (use_bytes planned u) (small law.plans planned u h) in
      let power = is.0 in
      let five = power.1 in
      let exact = power.3 ∙ power_split 2 power.0 (omega (arith, five)) in
      let fits = words_fit (use_bytes planned u) (block_size_for (use_bytes planned u)) is.1 (omega (arith, exact)) in
      let low = ins.0 in
      let high = ins.1 in
      (low, omega (arith, high, fits))

  -- ---- it is not empty

  large : (xs : List ℕ) (x : ℕ) → x < length p.globals → has xs x ≡ true → 0 < words_in p xs
  large xs x lt h =
      let among = (laid p xs (λ y. (global_shaped w y).sound.aligned)).among x h in
      let size = global_is_large w ok.typed ok.within x lt in
      filled_up (region_bytes p xs) (omega (arith, among, size))
    where
      filled_up : (n : ℕ) → 0 < n → 0 < (n + 3) / 4 * 4 / 4
      filled_up n h = omega (arith, h)

  not_empty : (u : RamUse) → IsUse f u → 0 < words u
  not_empty ForStack h = absurd h.of_globals
  not_empty ForMonitor h = absurd h.of_globals
  not_empty (ForRegion r) h =
      let g = regions.filled (final_graph_of planned) r h.there in
      large (region_at f.regions r).globals g.0 (regions.below (final_graph_of planned) r h.there g.0 g.1) g.1
  not_empty ForUnwritten h = by f.unwritten refl
    where
      by : (ys : List ℕ) → f.unwritten ≡ ys → 0 < words_in p f.unwritten
      by [] e = let m : length f.unwritten ≡ 0 = ap length e in let some = h.there in absurd (omega (arith, m, some))
      by (y ∷ ys) e =
          let g : has f.unwritten y ≡ true = subst (λ zs. has zs y ≡ true) (sym e) (ap (λ c. c || has ys y) (eq-eqb y y refl)) in
          large f.unwritten y (regions.unwritten_below (final_graph_of planned) y g) g

  -- ---- all records

  one_passes : (u : RamUse) → IsUse f u → (a : ℕ) → is_init i t a (record { at = base u; end = base u + 4 * words u; from = a }) ≡ true
  unfolding linked tables_of
  one_passes u h a = passes i t (base u) (words u) a (even u h) (not_empty u h) (inside u h) (off_stack u h) (off_monitor u h)

  all_pass : (a at : ℕ) (us : List RamUse) → Each (IsUse f) us → inits_from i t a at (init_records p a (map (filled_for f l) us)) ≡ None
  all_pass a at [] h = refl
  all_pass a at (u ∷ us) h =
      let z : 4 * words u ≡ base u + 4 * words u - base u = omega arith in
      then_yes (must_yes (is_init i t a (record { at = base u; end = base u + 4 * words u; from = a })) at (one_passes u h.0 a))
      (subst (λ k. inits_from i t (a + k) (at + 12) (init_records p (a + 4 * words u) (map (filled_for f l) us)) ≡ None) z (all_pass (a + 4 * words u) (at + 12) us h.1))

  -- the initial words stand where the tables say
  pub begin_is : words_begin p n f l (slots_of b) ≡ initial_words_at t
  unfolding tables_of
  begin_is =
      let e = end_is law.counts p n f l b (has_compartments typing planned) in
      let c = initial_words_are p n f l b in
      let m = law.counts.words p n f l b in
      omega (arith, e, c, m)

  pub inits_pass : inits_fail i t ≡ None
  unfolding tables_of
  inits_pass =
      let from = words_begin p n f l (slots_of b) in
      subst (λ a. inits_from i t a (inits_at t) t.inits ≡ None) begin_is
      (subst (λ bs. inits_from i t from (inits_at t) (init_records p from bs) ≡ None) (sym (filled_is f l)) (all_pass from (inits_at t) _ (uses_are f)))

-- Where the globals of a planned firmware lie: in the block of their region, or of the globals of none.
use Rattle.std.proofs.Common.{◌≡◌, ◌≢◌, ℕ, ◌<◌, ◌≤◌, ◌+◌, ◌-◌, ◌^◌, ◌⊎◌, inl, inr, true, length, Option, Some, None, refl, ap, sym, subst, arith}
use Rattle.std.proofs.lemmas.Bool.{cases_eq}
use mathlib.Core.Logic.{⊎_elim}
use Rattle.ir_model.specs.Resolve.{resolve}
use Rattle.ir_model.specs.Resolved.{Program, global_at}
use Rattle.plan_model.specs.declared.plan.Plan.{Plan}
use Rattle.plan_model.specs.declared.plan.Sizes.{Sizes}
use Rattle.plan_model.specs.Lists.{has}
use Rattle.plan_model.specs.Regions.{global_size}
use Rattle.plan_model.specs.Blocks.{block_size_for, region_bytes, offset_in_region}
use Rattle.plan_model.specs.RamBlocks.{RamUse, ForStack, ForMonitor, ForRegion, ForUnwritten}
use Rattle.plan_model.specs.Placement.{region_with, address_in, global_address}
use Rattle.plan_layout_laws.specs.GlobalLaws.{HasAlignments, GlobalsAreLaid, GlobalsAreHeld}
use Rattle.plan_layout_laws.specs.RamLaws.{HoldsAddress}
use Rattle.plan_layout_laws.specs.RamPlaces.{block_for}
use Rattle.plan_layout_laws.proofs.Offsets.{some_global}
use Rattle.plan.specs.PlannedFirmwares.{plan, planned_sizes}
use Rattle.image_promises.proofs.PlannedPremises.{PlannedPremises, final_graph_of, global_address_of}
use Rattle.image_promises.proofs.Facts.{PlanLaws}
use Rattle.plan_model.proofs.Powers.{small_block}
use Rattle.base_laws.proofs.Powers.{power_split}
use Rattle.image_promises.proofs.Ranges.{IsUse, IsOfGlobals, globals_for, block_in, small}
use Rattle.base_laws.proofs.Multiples as multiples
use Rattle.base_laws.proofs.Multiples.{IsMultiple, from_no_rest}
use Rattle.ir_laws.proofs.Aligned.{Small, one_byte, two_bytes, four_bytes}
use Rattle.ir_laws.proofs.GlobalShapes.{global_shaped}
use Rattle.image_promises.proofs.FinalRegions.{region_has, no_region_is}

-- what is known of plans, and of the globals in them
pub record GlobalLaws : Type 0 where
  pub plans : PlanLaws
  pub laid : GlobalsAreLaid
  pub held : GlobalsAreHeld

-- ---- multiples

in_fours : (a : ℕ) → Small a → IsMultiple a 4
in_fours a one_byte = record { times = 4; is = refl }
in_fours a two_bytes = record { times = 2; is = refl }
in_fours a four_bytes = record { times = 1; is = refl }

fours : (k : ℕ) → 2 ≤ k → IsMultiple 4 (2 ^ k)
fours k l = record { times = 2 ^ (k - 2); is = let m = power_split 2 k l in omega (arith, m) }

-- ---- uses

pub same_or_other : (u v : RamUse) → IsOfGlobals u → IsOfGlobals v → (u ≡ v) ⊎ (u ≢ v)
same_or_other ForStack v h k = absurd h
same_or_other ForMonitor v h k = absurd h
same_or_other u ForStack h k = absurd k
same_or_other u ForMonitor h k = absurd k
same_or_other (ForRegion r) (ForRegion s) h k = ⊎_elim (λ e. inl (ap ForRegion e)) (λ d. inr (λ e. d (ap number e))) (cases_eq r s)
  where
    number : RamUse → ℕ
    number (ForRegion r) = r
    number _ = 0
same_or_other (ForRegion r) ForUnwritten h k = inr (λ e. cc)
same_or_other ForUnwritten (ForRegion s) h k = inr (λ e. cc)
same_or_other ForUnwritten ForUnwritten h k = inl refl

not_stack : (u : RamUse) → IsOfGlobals u → u ≢ ForStack
not_stack ForStack h = absurd h
not_stack ForMonitor h = absurd h
not_stack (ForRegion r) h = λ e. cc
not_stack ForUnwritten h = λ e. cc

not_monitor : (u : RamUse) → IsOfGlobals u → u ≢ ForMonitor
not_monitor ForStack h = absurd h
not_monitor ForMonitor h = absurd h
not_monitor (ForRegion r) h = λ e. cc
not_monitor ForUnwritten h = λ e. cc

module _ (law : GlobalLaws) (planned : PlannedPremises) where
  open planned use {firmware as w, needs as n, final as f, board as b, is_planned as ok}

  abbrev p : Program
  p = resolve w

  abbrev s : Sizes
  s = planned_sizes w n f b

  abbrev l : Plan
  l = plan w n f b

  abbrev count : ℕ
  count = length p.globals

  pub aligns : HasAlignments p
  aligns x = (global_shaped w x).sound.aligned

  -- the block in which a global lies
  pub record IsPlaced (x : ℕ) : Type 0 where
    pub use_of : RamUse
    pub is_use : IsUse f use_of
    pub has_it : has (globals_for f use_of) x ≡ true
    pub address_is : global_address_of planned x ≡ (block_for l use_of).base + offset_in_region p (globals_for f use_of) x
    pub holds : (byte : ℕ) → byte < global_size p x → HoldsAddress p f l use_of (global_address_of planned x + byte)

  placed_by : (x : ℕ) → x < count → (o : Option ℕ) → region_with f x ≡ o → IsPlaced x
  unfolding global_address
  placed_by x m (Some r) e =
      let h = region_has (final_graph_of planned) r x e in
      record {
        use_of = ForRegion r;
        is_use = record { of_globals = tt; there = h.0 };
        has_it = h.1;
        address_is = ap (λ (o : Option ℕ). address_in p f l x o) e;
        holds = λ byte k. (law.held p f s b ok.board ok.fits aligns x byte k).0 r e;
      }
  placed_by x m None e =
      let h = no_region_is (final_graph_of planned) x m e in
      record {
        use_of = ForUnwritten;
        is_use = record { of_globals = tt; there = some_global f.unwritten x h };
        has_it = h;
        address_is = ap (λ (o : Option ℕ). address_in p f l x o) e;
        holds = λ byte k. (law.held p f s b ok.board ok.fits aligns x byte k).1 e h;
      }

  pub placed : (x : ℕ) → x < count → IsPlaced x
  placed x m = placed_by x m (region_with f x) refl

  -- each lies in RAM
  pub in_ram : (x : ℕ) → x < count → (b.ram_base ≤ global_address_of planned x) × (global_address_of planned x + global_size p x ≤ b.ram_base + b.ram_size)
  in_ram x m =
      let i = placed x m in
      let e = i.address_is in
      let among = (law.laid p (globals_for f i.use_of) aligns).among x i.has_it in
      let room = (small_block (region_bytes p (globals_for f i.use_of)) (small law.plans planned i.use_of i.is_use)).1 in
      let inside = (block_in law.plans planned i.use_of i.is_use).0 in
      let low = inside.0 in
      let high = inside.1 in
      (omega (arith, e, low), omega (arith, e, among, room, high))

  -- at a multiple of its alignment
  pub aligned_at : (x : ℕ) → x < count → IsMultiple (global_at p x).shape.align (global_address_of planned x)
  aligned_at x m =
      let a : ℕ = (global_at p x).shape.align in
      let i = placed x m in
      let bytes : ℕ = region_bytes p (globals_for f i.use_of) in
      let power = (small_block bytes (small law.plans planned i.use_of i.is_use)).0 in
      let five = power.1 in
      let by_block : IsMultiple (2 ^ power.0) (block_for l i.use_of).base = subst (λ z. IsMultiple z (block_for l i.use_of).base) power.3 (from_no_rest (block_size_for bytes) (block_for l i.use_of).base (block_in law.plans planned i.use_of i.is_use).1) in
      let by_four : IsMultiple 4 (block_for l i.use_of).base = multiples.through 4 (2 ^ power.0) (block_for l i.use_of).base (fours power.0 (omega (arith, five))) by_block in
      let by_it : IsMultiple a (block_for l i.use_of).base = multiples.through a 4 (block_for l i.use_of).base (in_fours a (global_shaped w x).fair.small) by_four in
      let offset : IsMultiple a (offset_in_region p (globals_for f i.use_of) x) = from_no_rest a (offset_in_region p (globals_for f i.use_of) x) ((law.laid p (globals_for f i.use_of) aligns).aligned x i.has_it) in
      subst (IsMultiple a) (sym i.address_is) (multiples.both a (block_for l i.use_of).base (offset_in_region p (globals_for f i.use_of) x) by_it offset)

  -- an address among a global's bytes
  pub record IsByte (x z : ℕ) : Type 0 where
    pub low : global_address_of planned x ≤ z
    pub high : z < global_address_of planned x + global_size p x

  pub byte_held : (x : ℕ) (i : IsPlaced x) (z : ℕ) → IsByte x z → HoldsAddress p f l i.use_of z
  byte_held x i z y =
      let low = y.low in
      let high = y.high in
      let there : global_address_of planned x + (z - global_address_of planned x) ≡ z = omega (arith, low) in
      subst (HoldsAddress p f l i.use_of) there (i.holds (z - global_address_of planned x) (omega (arith, low, high)))

  -- two share no byte
  pub apart : (x y z : ℕ) → x < count → y < count → x ≢ y → IsByte x z → IsByte y z → ⊥
  apart x y z h k d one two = ⊎_elim same other (same_or_other i.use_of j.use_of i.is_use.of_globals j.is_use.of_globals)
    where
      i : IsPlaced x
      i = placed x h

      j : IsPlaced y
      j = placed y k

      same : i.use_of ≡ j.use_of → ⊥
      same e =
          let at = i.address_is in
          let there : global_address_of planned y ≡ (block_for l i.use_of).base + offset_in_region p (globals_for f i.use_of) y = subst (λ u. global_address_of planned y ≡ (block_for l u).base + offset_in_region p (globals_for f u) y) (sym e) j.address_is in
          let has_other : has (globals_for f i.use_of) y ≡ true = subst (λ u. has (globals_for f u) y ≡ true) (sym e) j.has_it in
          let low = one.low in
          let high = one.high in
          let from = two.low in
          let to = two.high in
          ⊎_elim (λ le. omega (arith, le, at, there, high, from)) (λ le. omega (arith, le, at, there, low, to)) ((law.laid p (globals_for f i.use_of) aligns).apart x y i.has_it has_other d)

      other : i.use_of ≢ j.use_of → ⊥
      other ne = law.plans.apart p f s b i.use_of j.use_of z ne (byte_held x i z one) (byte_held y j z two)

  -- and none is one of the stack or of the monitor's block
  pub off_stack : (x z : ℕ) → x < count → IsByte x z → l.stack.base ≤ z → z < l.stack.base + l.stack.size → ⊥
  off_stack x z h y low high = let i = placed x h in law.plans.apart p f s b i.use_of ForStack z (not_stack i.use_of i.is_use.of_globals) (byte_held x i z y) (low, high)

  pub off_monitor : (x z : ℕ) → x < count → IsByte x z → l.monitor.base ≤ z → z < l.monitor.base + l.monitor.size → ⊥
  off_monitor x z h y low high = let i = placed x h in law.plans.apart p f s b i.use_of ForMonitor z (not_monitor i.use_of i.is_use.of_globals) (byte_held x i z y) (low, high)

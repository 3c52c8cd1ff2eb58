-- No two blocks of RAM hold the same address.
use Rattle.std.proofs.Common.{◌≡◌, ℕ, zero, suc, ◌+◌, ◌<◌, ◌≤◌, ◌⊎◌, inl, inr, Bool, true, false, cond, List, [], ◌∷◌, ◌++◌, length, get_or, map, Option, Some, option_map, refl, sym, ap, subst, eqb-true, arith}
use Rattle.std.specs.Prelude.{find, unwrap_or}
use Rattle.std.specs.List.{range_with_len}
use mathlib.Core.Logic.{⊎_elim}
use Rattle.ir_model.specs.Resolved.{Program}
use Rattle.plan_model.specs.declared.graph.Final.{Final}
use Rattle.plan_model.specs.declared.plan.Spot.{Spot}
use Rattle.plan_model.specs.Blocks.{region_bytes}
use Rattle.plan_model.specs.Lists.{numbers_below, placed, in_order}
use Rattle.plan_model.specs.Regions.{region_at}
use Rattle.plan_model.specs.RamBlocks.{RamUse, ForStack, ForMonitor, ForRegion, ForUnwritten, RamBlock, holds_globals, same_use, full_block, globals_block, region_block, unwritten_block, other_blocks, ram_blocks}
use Rattle.plan_model.specs.RamPlacement.{PlacedBlock}
use Rattle.plan_model.specs.Placement.{no_spot}
use Rattle.plan_layout_laws.proofs.Filling.{Entry, placed as placed_entry, entries_hit, ArePositive}
use Rattle.plan_layout_laws.proofs.Hits.{hit_inside, held}
use Rattle.plan_layout_laws.proofs.PowersOfTwo.{block_positive}

-- ---- what the block for a use is

abbrev pub use_block : Program → Final → (stack : ℕ) → RamUse → RamBlock
use_block p f stack ForStack = full_block ForStack stack
use_block p f stack ForMonitor = full_block ForMonitor 1024
use_block p f stack (ForRegion r) = region_block p f.regions r
use_block p f stack ForUnwritten = globals_block p ForUnwritten f.unwritten

module _ (p : Program) (f : Final) (stack : ℕ) where
  -- each block of a list is the one for its use
  abbrev pub AreOwn : List RamBlock → Type 0
  AreOwn [] = Unit {0}
  AreOwn (b ∷ bs) = (b ≡ use_block p f stack b.use_of) × AreOwn bs

  own_joined : (bs cs : List RamBlock) → AreOwn bs → AreOwn cs → AreOwn (bs ++ cs)
  own_joined [] cs h i = i
  own_joined (b ∷ bs) cs h i = (h.0, own_joined bs cs h.1 i)

  regions_own : (a n : ℕ) → AreOwn (map (region_block p f.regions) (range_with_len a n))
  regions_own a zero = tt
  regions_own a (suc n) = (refl, regions_own (a + 1) n)

  unwritten_own : (xs : List ℕ) → f.unwritten ≡ xs → AreOwn (unwritten_block p xs)
  unwritten_own [] e = tt
  unwritten_own (x ∷ xs) e = (ap (λ (ys : List ℕ). globals_block p ForUnwritten ys) (sym e), tt)

  pub others_own : AreOwn (other_blocks p f)
  others_own = (refl, own_joined (map (region_block p f.regions) (numbers_below (length f.regions))) (unwritten_block p f.unwritten) (regions_own 0 (length f.regions)) (unwritten_own f.unwritten refl))

  pub all_own : AreOwn (ram_blocks p f stack)
  unfolding ram_blocks
  all_own = (refl, others_own)

  placed_own : (before : RamBlock → RamBlock → Bool) (b : RamBlock) (bs : List RamBlock) → b ≡ use_block p f stack b.use_of → AreOwn bs → AreOwn (placed before b bs)
  placed_own before b [] e h = (e, tt)
  placed_own before b (c ∷ cs) e h = by (before c b) (placed_own before b cs e h.1)
    where
      by : (t : Bool) → AreOwn (placed before b cs) → AreOwn (cond t (c ∷ placed before b cs) (b ∷ c ∷ cs))
      by true ih = (h.0, ih)
      by false ih = (e, h)

  pub ordered_own : (before : RamBlock → RamBlock → Bool) (bs : List RamBlock) → AreOwn bs → AreOwn (in_order before bs)
  ordered_own before [] h = tt
  ordered_own before (b ∷ bs) h = placed_own before b (in_order before bs) h.0 (ordered_own before bs h.1)

  use_positive : (u : RamUse) → holds_globals u ≡ true → 0 < (use_block p f stack u).size
  use_positive ForStack h = cc
  use_positive ForMonitor h = cc
  use_positive (ForRegion r) h = block_positive (region_bytes p (region_at f.regions r).globals)
  use_positive ForUnwritten h = block_positive (region_bytes p f.unwritten)

  pub positive : (bs : List RamBlock) → AreOwn bs → ArePositive bs
  positive [] h = tt
  positive (b ∷ bs) h = ((λ g. subst (λ (c : RamBlock). 0 < c.size) (sym h.0) (use_positive b.use_of g)), positive bs h.1)

  pub own_at : (es : List Entry) (i : ℕ) (d : Entry) → AreOwn (map (λ (e : Entry). e.block) es) → i < length es → (get_or es i d).block ≡ use_block p f stack (get_or es i d).block.use_of
  own_at [] i d h l = absurd (omega arith)
  own_at (x ∷ es) zero d h l = h.0
  own_at (x ∷ es) (suc i) d h l = own_at es i d h.1 (omega arith)

-- ---- the entry for a use

pub no_entry : Entry
no_entry = record { base = 0; block = full_block ForStack 0 }

pub same_is : (u v : RamUse) → same_use u v ≡ true → u ≡ v
same_is ForStack ForStack e = refl
same_is ForMonitor ForMonitor e = refl
same_is ForUnwritten ForUnwritten e = refl
same_is (ForRegion r) (ForRegion s) e = ap (λ (n : ℕ). ForRegion n) (eqb-true r s e)
same_is ForStack ForMonitor e = cc
same_is ForStack (ForRegion s) e = cc
same_is ForStack ForUnwritten e = cc
same_is ForMonitor ForStack e = cc
same_is ForMonitor (ForRegion s) e = cc
same_is ForMonitor ForUnwritten e = cc
same_is (ForRegion r) ForStack e = cc
same_is (ForRegion r) ForMonitor e = cc
same_is (ForRegion r) ForUnwritten e = cc
same_is ForUnwritten ForStack e = cc
same_is ForUnwritten ForMonitor e = cc
same_is ForUnwritten (ForRegion s) e = cc

abbrev pub InEntry : Entry → (x : ℕ) → Type 0
InEntry e x = (e.base ≤ x) × (x < e.base + held e.block)

-- the block for a use, if there is one, is that of an entry
pub record IsFound (es : List Entry) (u : RamUse) (s : Spot) : Type 0 where
  pub number : ℕ
  pub there : number < length es
  pub use_is : (get_or es number no_entry).block.use_of ≡ u
  pub base_is : s.base ≡ (get_or es number no_entry).base
  pub size_is : s.size ≡ (get_or es number no_entry).block.size

abbrev pub spot_in : List PlacedBlock → RamUse → Option Spot
spot_in bs u = option_map (λ (b : PlacedBlock). b.spot) (find (λ (b : PlacedBlock). same_use b.use_of u) bs)

pub found : (es : List Entry) (u : RamUse) → (unwrap_or (spot_in (map placed_entry es) u) no_spot ≡ no_spot) ⊎ IsFound es u (unwrap_or (spot_in (map placed_entry es) u) no_spot)
found [] u = inl refl
found (e ∷ es) u = by (same_use e.block.use_of u) refl (found es u)
  where
    rest : Option Spot
    rest = spot_in (map placed_entry es) u

    by : (c : Bool) → same_use e.block.use_of u ≡ c → (unwrap_or (spot_in (map placed_entry es) u) no_spot ≡ no_spot) ⊎ IsFound es u (unwrap_or (spot_in (map placed_entry es) u) no_spot)
        → (unwrap_or (option_map (λ (b : PlacedBlock). b.spot) (cond c (Some (placed_entry e)) (find (λ (b : PlacedBlock). same_use b.use_of u) (map placed_entry es)))) no_spot ≡ no_spot)
        ⊎ IsFound (e ∷ es) u (unwrap_or (option_map (λ (b : PlacedBlock). b.spot) (cond c (Some (placed_entry e)) (find (λ (b : PlacedBlock). same_use b.use_of u) (map placed_entry es)))) no_spot)
    by true t ih = inr (record { number = 0; there = omega arith; use_is = same_is e.block.use_of u t; base_is = refl; size_is = refl })
    by false t ih = ⊎_elim (λ n. inl n) (λ h. inr (record { number = suc h.number; there = (let l = h.there in omega arith); use_is = h.use_is; base_is = h.base_is; size_is = h.size_is })) ih

-- ---- two entries

hit_at : (es : List Entry) (i : ℕ) (x : ℕ) → i < length es → InEntry (get_or es i no_entry) x → 1 ≤ entries_hit es x
hit_at [] i x l h = absurd (omega arith)
hit_at (e ∷ es) zero x l h = let one = hit_inside e.base (e.base + held e.block) x h.0 h.1 in omega arith
hit_at (e ∷ es) (suc i) x l h = let ih = hit_at es i x (omega arith) h in omega arith

pub hit_twice : (es : List Entry) (i j : ℕ) (x : ℕ) → i < j → j < length es → InEntry (get_or es i no_entry) x → InEntry (get_or es j no_entry) x → 2 ≤ entries_hit es x
hit_twice [] i j x l m h k = absurd (omega arith)
hit_twice (e ∷ es) i zero x l m h k = absurd (omega arith)
hit_twice (e ∷ es) zero (suc j) x l m h k = let one = hit_inside e.base (e.base + held e.block) x h.0 h.1 in let other = hit_at es j x (omega arith) k in omega arith
hit_twice (e ∷ es) (suc i) (suc j) x l m h k = let ih = hit_twice es i j x (omega arith) (omega arith) h k in omega arith

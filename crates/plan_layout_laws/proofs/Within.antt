-- Each block of RAM lies in the part that is filled, at a multiple of its size.
use Rattle.std.proofs.Common.{◌≡◌, ℕ, zero, suc, ◌+◌, ◌-◌, ◌*◌, ◌/◌, ◌<◌, ◌≤◌, ◌⊎◌, inl, inr, Bool, true, false, cond, List, [], ◌∷◌, length, get_or, set, max, Option, Some, None, option_map, nat_lt, refl, leb-true, ltb-false, ltb-true, arith}
use Rattle.std.specs.List.{fold}
use Rattle.std.specs.Prelude.{find, unwrap_or}
use Rattle.ir_model.specs.Layout.{rounded_up}
use Rattle.plan_model.specs.Blocks.{open_eighths}
use Rattle.plan_model.specs.Lists.{placed, in_order}
use Rattle.plan_model.specs.RamBlocks.{RamUse, RamBlock, holds_globals, same_use, falling}
use Rattle.plan_model.specs.RamPlacement.{Tail, Ram, PlacedBlock, no_tail, tail_of, fits, tail_for, spot_at, with_block, with_block_by, with_block_in, with_block_behind, empty_ram, largest_with, stack_first}
use Rattle.plan_model.specs.Placement.{no_spot}
use Rattle.plan_layout_laws.proofs.Filling.{ArePositive, tail_found, largest_at_least}
use Rattle.plan_layout_laws.proofs.Hits.{has_tail}
use Rattle.base_laws.proofs.Multiples.{IsMultiple, both, none}
use Rattle.plan_layout_laws.proofs.PowersOfTwo.{IsPower, quotient, greater}
use Rattle.ir_model.proofs.Counting.{rounded_at_least}
use Rattle.base_laws.specs.Lists.{Each}
use Rattle.base_laws.proofs.Lists.{each_at, each_both, each_to}

each_set : {X : Type 0} (P : X → Type 0) (xs : List X) (k : ℕ) (y : X) → Each P xs → P y → Each P (set xs k y)
each_set P [] k y h p = tt
each_set P (x ∷ xs) zero y h p = (p, h.1)
each_set P (x ∷ xs) (suc k) y h p = (h.0, each_set P xs k y h.1 p)

-- a tail, and a block, between two addresses; where RAM begins at a multiple of its size, the block does too
pub record IsTailIn (low high : ℕ) (t : Tail) : Type 0 where
  pub from : low ≤ t.from
  pub to : t.to ≤ high

pub record IsBlockIn (low high : ℕ) (b : PlacedBlock) : Type 0 where
  pub from : low ≤ b.spot.base
  pub to : b.spot.base + b.spot.size ≤ high
  pub power : IsPower b.spot.size
  pub aligned : IsMultiple b.spot.size low → IsMultiple b.spot.size b.spot.base

pub record Within (ram : ℕ) (m : Ram) : Type 0 where
  pub tails : Each (IsTailIn ram (ram + m.used)) m.tails
  pub blocks : Each (IsBlockIn ram (ram + m.used)) m.blocks

-- a block's own tail lies in the block
own_tail : (low high base : ℕ) (b : RamBlock) → low ≤ base → base + b.size ≤ high → Each (IsTailIn low high) (tail_of base b)
own_tail low high base b l h = by (has_tail b) refl
  where
    by : (c : Bool) → has_tail b ≡ c → Each (IsTailIn low high) (cond c (record { from = base + b.size / 8 * open_eighths b.size b.bytes; to = base + b.size } ∷ []) [])
    by true e = (record { from = omega arith; to = omega arith }, tt)
    by false e = tt

-- ---- one block more

module _ (ram : ℕ) (m : Ram) (old : Within ram m) (b : RamBlock) (power : IsPower b.size) where
  abbrev high : ℕ
  high = ram + (m.used + b.size)

  behind : IsMultiple b.size m.used → Within ram (with_block_behind ram m b)
  behind multiple =
      record {
        tails = each_both (IsTailIn ram high) m.tails (tail_of (ram + m.used) b) (each_to (IsTailIn ram (ram + m.used)) (IsTailIn ram high) m.tails wider old.tails)
            (own_tail ram high (ram + m.used) b (omega arith) (omega arith));
        blocks = each_both (IsBlockIn ram high) m.blocks (spot_at (ram + m.used) b ∷ []) (each_to (IsBlockIn ram (ram + m.used)) (IsBlockIn ram high) m.blocks wider_block old.blocks) (new, tt);
      }
    where
      wider : (t : Tail) → IsTailIn ram (ram + m.used) t → IsTailIn ram high t
      wider t h = let l = h.to in record { from = h.from; to = omega arith }

      wider_block : (p : PlacedBlock) → IsBlockIn ram (ram + m.used) p → IsBlockIn ram high p
      wider_block p h = let l = h.to in record { from = h.from; to = omega arith; power = h.power; aligned = h.aligned }

      new : IsBlockIn ram high (spot_at (ram + m.used) b)
      new = record { from = omega arith; to = omega arith; power = power; aligned = λ a. both b.size ram m.used a multiple }

  inside : (k : ℕ) → k < length m.tails → fits b.size (get_or m.tails k no_tail) ≡ true → 0 < b.size → Within ram (with_block_in m k (get_or m.tails k no_tail) b)
  inside k there room some =
      let t : Tail = get_or m.tails k no_tail in
      let base : ℕ = rounded_up t.from b.size in
      let place = each_at (IsTailIn ram (ram + m.used)) m.tails no_tail k old.tails there in
      let from = place.from in
      let to = place.to in
      let above = rounded_at_least t.from b.size some in
      let ends = leb-true (base + b.size) t.to room in
      let low : ram ≤ base = omega arith in
      let most : base + b.size ≤ ram + m.used = omega arith in
      let left : IsTailIn ram (ram + m.used) (record t { from = base + b.size }) = record { from = omega arith; to = to } in
      record {
        tails = each_both (IsTailIn ram (ram + m.used)) (set m.tails k (record t { from = base + b.size })) (tail_of base b) (each_set (IsTailIn ram (ram + m.used)) m.tails k (record t { from = base + b.size }) old.tails left)
            (own_tail ram (ram + m.used) base b low most);
        blocks = each_both (IsBlockIn ram (ram + m.used)) m.blocks (spot_at base b ∷ []) old.blocks
            (record { from = low; to = most; power = power; aligned = λ a. record { times = (t.from + (b.size - 1)) / b.size; is = refl } }, tt);
      }

  -- wherever it goes, later blocks still divide what is used
  pub more_within : (bs : List RamBlock) → (holds_globals b.use_of ≡ true → 0 < b.size) → Each (λ c. IsPower c.size) bs → Each (λ c. c.size ≤ b.size) bs → IsMultiple b.size m.used
      → Each (λ c. IsMultiple c.size m.used) bs → Within ram (with_block ram m b) × Each (λ c. IsMultiple c.size (with_block ram m b).used) bs
  unfolding with_block
  more_within bs positive powers less own later = by (tail_for m.tails b) refl
    where
      added : (cs : List RamBlock) → Each (λ c. IsPower c.size) cs → Each (λ c. c.size ≤ b.size) cs → Each (λ c. IsMultiple c.size m.used) cs → Each (λ c. IsMultiple c.size (m.used + b.size)) cs
      added [] p l u = tt
      added (c ∷ cs) p l u =
          let q = quotient c.size b.size p.0 power l.0 in
          (both c.size m.used b.size u.0 (record { times = q.0; is = q.1 }), added cs p.1 l.1 u.1)

      by : (o : Option ℕ) → tail_for m.tails b ≡ o → Within ram (with_block_by ram m b o) × Each (λ c. IsMultiple c.size (with_block_by ram m b o).used) bs
      by None e = (behind own, added bs powers less later)
      by (Some k) e = let f = tail_found m b positive (holds_globals b.use_of) k refl e in (inside k f.0 f.1 f.2, later)

-- ---- all blocks

-- no block is larger than one before it
abbrev pub Falls : List RamBlock → Type 0
Falls [] = Unit {0}
Falls (b ∷ bs) = Each (λ c. c.size ≤ b.size) bs × Falls bs

pub filled_within : (ram : ℕ) (m : Ram) (bs : List RamBlock) → Within ram m → Falls bs → Each (λ c. IsPower c.size) bs → ArePositive bs → Each (λ c. IsMultiple c.size m.used) bs → Within ram (fold (with_block ram) m bs)
filled_within ram m [] h f p o u = h
filled_within ram m (b ∷ bs) h f p o u =
    let n = more_within ram m h b p.0 bs o.0 p.1 f.0 u.0 u.1 in
    filled_within ram (with_block ram m b) bs n.0 f.1 p.1 o.1 n.1

pub empty_within : (ram : ℕ) → Within ram empty_ram
empty_within ram = record { tails = tt; blocks = tt }

pub none_used : (bs : List RamBlock) → Each (λ c. IsMultiple c.size 0) bs
none_used [] = tt
none_used (b ∷ bs) = (none b.size, none_used bs)

-- ---- behind the stack

largest_of_each : (n : ℕ) (bs : List RamBlock) → Each (λ c. c.size ≤ largest_with n bs) bs
largest_of_each n [] = tt
largest_of_each n (b ∷ bs) = let l = largest_at_least (max n b.size) bs in (omega arith, largest_of_each (max n b.size) bs)

largest_is_power : (n : ℕ) (bs : List RamBlock) → IsPower n → Each (λ c. IsPower c.size) bs → IsPower (largest_with n bs)
largest_is_power n [] p h = p
largest_is_power n (b ∷ bs) p h = largest_is_power (max n b.size) bs (greater n b.size (inr p) h.0) h.1

all_divide : (x : ℕ) (bs : List RamBlock) → IsPower x → Each (λ c. IsPower c.size) bs → Each (λ c. c.size ≤ x) bs → Each (λ c. IsMultiple c.size x) bs
all_divide x [] p h l = tt
all_divide x (c ∷ cs) p h l = let q = quotient c.size x h.0 p l.0 in (record { times = q.0; is = q.1 }, all_divide x cs p h.1 l.1)

-- the blocks stand from a multiple of each on
pub gap_divides : (stack : ℕ) (bs : List RamBlock) → IsPower stack → Each (λ c. IsPower c.size) bs → Each (λ c. IsMultiple c.size (largest_with stack bs)) bs
gap_divides stack bs p h = all_divide (largest_with stack bs) bs (largest_is_power stack bs p h) h (largest_of_each stack bs)

pub stack_within : (ram stack : ℕ) (bs : List RamBlock) → IsPower stack → Within ram (stack_first ram stack bs)
stack_within ram stack bs p =
    let l = largest_at_least stack bs in
    record {
      tails = (record { from = omega arith; to = omega arith }, tt);
      blocks = (record { from = omega arith; to = omega arith; power = p; aligned = λ a. a }, tt);
    }

-- ---- in falling order

abbrev by_size : RamBlock → RamBlock → Bool
by_size a b = nat_lt b.size a.size

pub all_placed : (P : RamBlock → Type 0) (before : RamBlock → RamBlock → Bool) (b : RamBlock) (bs : List RamBlock) → P b → Each P bs → Each P (placed before b bs)
all_placed P before b [] p h = (p, tt)
all_placed P before b (c ∷ cs) p h = by (before c b) (all_placed P before b cs p h.1)
  where
    by : (t : Bool) → Each P (placed before b cs) → Each P (cond t (c ∷ placed before b cs) (b ∷ c ∷ cs))
    by true ih = (h.0, ih)
    by false ih = (p, h)

pub all_ordered : (P : RamBlock → Type 0) (before : RamBlock → RamBlock → Bool) (bs : List RamBlock) → Each P bs → Each P (in_order before bs)
all_ordered P before [] h = tt
all_ordered P before (b ∷ bs) h = all_placed P before b (in_order before bs) h.0 (all_ordered P before bs h.1)

falls_placed : (b : RamBlock) (bs : List RamBlock) → Falls bs → Falls (placed by_size b bs)
falls_placed b [] h = (tt, tt)
falls_placed b (c ∷ cs) h = by (by_size c b) refl (falls_placed b cs h.1)
  where
    by : (t : Bool) → by_size c b ≡ t → Falls (placed by_size b cs) → Falls (cond t (c ∷ placed by_size b cs) (b ∷ c ∷ cs))
    by true e ih = let l = ltb-true b.size c.size e in (all_placed (λ d. d.size ≤ c.size) by_size b cs (omega arith) h.0, ih)
    by false e ih =
        let l = ltb-false b.size c.size e in
        ((l, each_to (λ (d : RamBlock). d.size ≤ c.size) (λ (d : RamBlock). d.size ≤ b.size) cs (λ d k. omega arith) h.0), h)

pub falls_ordered : (bs : List RamBlock) → Falls (falling bs)
falls_ordered [] = tt
falls_ordered (b ∷ bs) = falls_placed b (falling bs) (falls_ordered bs)

-- ---- the block for a use

pub found_in : (P : PlacedBlock → Type 0) (bs : List PlacedBlock) (u : RamUse) → Each P bs
    → (unwrap_or (option_map (λ (b : PlacedBlock). b.spot) (find (λ (b : PlacedBlock). same_use b.use_of u) bs)) no_spot ≡ no_spot)
    ⊎ ((t : PlacedBlock) × P t × (unwrap_or (option_map (λ (b : PlacedBlock). b.spot) (find (λ (b : PlacedBlock). same_use b.use_of u) bs)) no_spot ≡ t.spot))
found_in P [] u h = inl refl
found_in P (b ∷ bs) u h = by (same_use b.use_of u) (found_in P bs u h.1)
  where
    by : (c : Bool)
        → (unwrap_or (option_map (λ (d : PlacedBlock). d.spot) (find (λ (d : PlacedBlock). same_use d.use_of u) bs)) no_spot ≡ no_spot)
        ⊎ ((t : PlacedBlock) × P t × (unwrap_or (option_map (λ (d : PlacedBlock). d.spot) (find (λ (d : PlacedBlock). same_use d.use_of u) bs)) no_spot ≡ t.spot))
        → (unwrap_or (option_map (λ (d : PlacedBlock). d.spot) (cond c (Some b) (find (λ (d : PlacedBlock). same_use d.use_of u) bs))) no_spot ≡ no_spot)
        ⊎ ((t : PlacedBlock) × P t × (unwrap_or (option_map (λ (d : PlacedBlock). d.spot) (cond c (Some b) (find (λ (d : PlacedBlock). same_use d.use_of u) bs))) no_spot ≡ t.spot))
    by true ih = inr (b, h.0, refl)
    by false ih = ih

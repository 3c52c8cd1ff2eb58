-- Where the globals of a region stand in it.
use Rattle.std.proofs.Common.{◌≡◌, ◌≢◌, ℕ, suc, ◌+◌, ◌-◌, ◌/◌, ◌%◌, ◌<◌, ◌≤◌, inl, inr, Bool, true, false, not, ◌||◌, cond, List, [], ◌∷◌, length, get_or, nat_eq, refl, sym, ap, ◌∙◌, eqb-true, arith}
use Rattle.std.specs.List.{position_or_len}
use Rattle.std.proofs.Math.Nat.{mul-mod_left}
use mathlib.Core.Logic.{⊎_elim}
use Rattle.base_ranges.specs.Ranges.{AreApart}
use Rattle.ir_model.specs.Resolved.{Program, global_at}
use Rattle.plan_model.specs.Lists.{has}
use Rattle.plan_model.specs.Regions.{global_size}
use Rattle.plan_model.specs.Blocks.{aligned, offsets_from, end_from, offset_in_region, region_bytes}
use Rattle.plan_layout_laws.specs.GlobalLaws.{HasAlignments, AreLaid, GlobalsAreLaid}
use Rattle.ir_model.proofs.Counting.{rounded_at_least}

-- a row that has a global is not empty
pub some_global : (xs : List ℕ) (x : ℕ) → has xs x ≡ true → 0 < length xs
some_global [] x h = cc
some_global (y ∷ ys) x h = omega arith

module _ (p : Program) (there : HasAlignments p) where
  -- the offset of a global in a list that begins at an offset
  abbrev off : (at : ℕ) → List ℕ → (x : ℕ) → ℕ
  off at xs x = get_or (offsets_from p at xs) (position_or_len (λ y. nat_eq y x) xs) 0

  abbrev behind : (at y : ℕ) → ℕ
  behind at y = aligned p y at + global_size p y

  off_here : (at y x : ℕ) (ys : List ℕ) → nat_eq y x ≡ true → off at (y ∷ ys) x ≡ aligned p y at
  off_here at y x ys e = ap (λ c. get_or (aligned p y at ∷ offsets_from p (behind at y) ys) (cond (not c) (1 + position_or_len (λ z. nat_eq z x) ys) 0) 0) e

  off_later : (at y x : ℕ) (ys : List ℕ) → nat_eq y x ≡ false → off at (y ∷ ys) x ≡ off (behind at y) ys x
  off_later at y x ys e =
      let next : 1 + position_or_len (λ z. nat_eq z x) ys ≡ suc (position_or_len (λ z. nat_eq z x) ys) = omega arith in
      ap (λ c. get_or (aligned p y at ∷ offsets_from p (behind at y) ys) (cond (not c) (1 + position_or_len (λ z. nat_eq z x) ys) 0) 0) e
      ∙ ap (λ n. get_or (aligned p y at ∷ offsets_from p (behind at y) ys) n 0) next

  has_later : (y x : ℕ) (ys : List ℕ) → nat_eq y x ≡ false → has (y ∷ ys) x ≡ true → has ys x ≡ true
  has_later y x ys e h = sym (ap (λ c. c || has ys x) e) ∙ h

  up : (at y : ℕ) → at ≤ aligned p y at
  up at y = rounded_at_least at (global_at p y).shape.align (there y)

  pub grows : (at : ℕ) (xs : List ℕ) → at ≤ end_from p at xs
  grows at [] = omega arith
  grows at (x ∷ xs) = let h = grows (behind at x) xs in let u = up at x in omega arith

  record Bounds (at : ℕ) (xs : List ℕ) (x : ℕ) : Type 0 where
    low : at ≤ off at xs x
    high : off at xs x + global_size p x ≤ end_from p at xs
    even : off at xs x % (global_at p x).shape.align ≡ 0

  bounds : (at : ℕ) (xs : List ℕ) (x : ℕ) → has xs x ≡ true → Bounds at xs x
  bounds at [] x h = cc
  bounds at (y ∷ ys) x h = by (nat_eq y x) refl (λ e. bounds (behind at y) ys x (has_later y x ys e h))
    where
      by : (c : Bool) → nat_eq y x ≡ c → (nat_eq y x ≡ false → Bounds (behind at y) ys x) → Bounds at (y ∷ ys) x
      by true e ih =
          let same = eqb-true y x e in
          let o = off_here at y x ys e in
          let u = up at y in
          let g = grows (behind at y) ys in
          let size : global_size p y ≡ global_size p x = ap (global_size p) same in
          let even : aligned p y at % (global_at p y).shape.align ≡ 0 = mul-mod_left ((at + ((global_at p y).shape.align - 1)) / (global_at p y).shape.align) (global_at p y).shape.align in
          record {
            low = omega arith;
            high = omega arith;
            even = ap (λ (n : ℕ). n % (global_at p x).shape.align) o ∙ (ap (λ (z : ℕ). aligned p y at % (global_at p z).shape.align) (sym same) ∙ even);
          }
      by false e ih =
          let b = ih e in
          let o = off_later at y x ys e in
          let l = b.low in
          let m = b.high in
          let u = up at y in
          record { low = omega arith; high = omega arith; even = ap (λ (n : ℕ). n % (global_at p x).shape.align) o ∙ b.even }

  two_apart : (at : ℕ) (xs : List ℕ) (x y : ℕ) → has xs x ≡ true → has xs y ≡ true → x ≢ y → AreApart (off at xs x) (global_size p x) (off at xs y) (global_size p y)
  two_apart at [] x y h k ne = cc
  two_apart at (z ∷ zs) x y h k ne = by (nat_eq z x) (nat_eq z y) refl refl (λ e f. two_apart (behind at z) zs x y (has_later z x zs e h) (has_later z y zs f k) ne)
    where
      by : (c d : Bool) → nat_eq z x ≡ c → nat_eq z y ≡ d
          → (nat_eq z x ≡ false → nat_eq z y ≡ false → AreApart (off (behind at z) zs x) (global_size p x) (off (behind at z) zs y) (global_size p y))
          → AreApart (off at (z ∷ zs) x) (global_size p x) (off at (z ∷ zs) y) (global_size p y)
      by true true e f ih = absurd (ne (sym (eqb-true z x e) ∙ eqb-true z y f))
      by true false e f ih =
          let o = off_here at z x zs e in
          let q = off_later at z y zs f in
          let b = bounds (behind at z) zs y (has_later z y zs f k) in
          let l = b.low in
          let size : global_size p z ≡ global_size p x = ap (global_size p) (eqb-true z x e) in
          inl (omega arith)
      by false true e f ih =
          let o = off_later at z x zs e in
          let q = off_here at z y zs f in
          let b = bounds (behind at z) zs x (has_later z x zs e h) in
          let l = b.low in
          let size : global_size p z ≡ global_size p y = ap (global_size p) (eqb-true z y f) in
          inr (omega arith)
      by false false e f ih =
          let o = off_later at z x zs e in
          let q = off_later at z y zs f in
          ⊎_elim (λ l. inl (omega arith)) (λ l. inr (omega arith)) (ih e f)

  pub laid : (globals : List ℕ) → AreLaid p globals
  unfolding offset_in_region region_bytes
  laid globals =
      record {
        aligned = λ x h. (bounds 0 globals x h).even;
        among = λ x h. (bounds 0 globals x h).high;
        apart = λ x y h k ne. two_apart 0 globals x y h k ne;
      }

pub globals_are_laid : GlobalsAreLaid
globals_are_laid p globals there = laid p there globals

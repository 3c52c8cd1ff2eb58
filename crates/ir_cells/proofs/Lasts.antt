-- Where a search by halving ends among fields whose numbers do not fall.
use Rattle.std.proofs.Common.{◌≡◌, ℕ, ◌-◌, ◌<◌, ◌≤◌, true, false, List, length, get_or, arith, leb, refl, zero, suc}
use Rattle.std.specs.List.Sorted.{IsPartitionPoint}
use Rattle.std.proofs.lemmas.Bool.{leb-true, leb-false}
use Rattle.ir_layouts.specs.declared.struct_layout.Field.{Field}
use Rattle.ir_cells.specs.Halving.{IsFirstAbove, IsLastWithin}

abbrev pub Splits : (Field → ℕ) → List Field → (most place : ℕ) → Type 0
Splits n fs m i = IsPartitionPoint (λ (f : Field). leb (n f) m ≡ true) (λ (f : Field). leb (n f) m ≡ false) fs i

pub split_above : (n : Field → ℕ) (fs : List Field) (m i : ℕ) → Splits n fs m i → IsFirstAbove n fs m i
split_above n fs m i s = λ k f l u. leb-false (n (get_or fs k f)) m (s.1 k f l u)

pub split_last : (n : Field → ℕ) (fs : List Field) (m i : ℕ) → Splits n fs m i → (i ≡ 0 → ⊥) → i ≤ length fs → IsLastWithin n fs m (i - 1)
split_last n fs m i s z l =
    let p : 0 < i = positive i z in (
      omega arith,
      λ f. leb-true (n (get_or fs (i - 1) f)) m (s.0 (i - 1) f (omega arith) (omega arith)),
      λ k f a u. leb-false (n (get_or fs k f)) m (s.1 k f (omega arith) u),
    )
  where
    positive : (i : ℕ) → (i ≡ 0 → ⊥) → 0 < i
    positive zero z = absurd (z refl)
    positive (suc i) z = omega arith

-- Measures that are cut off.
use Rattle.std.proofs.Common.{◌≡◌, ℕ, zero, suc, ◌*◌, ◌^◌, ◌<◌, ◌≤◌, ◌⊎◌, inl, inr, length, sym, ap, ◌∙◌, arith}
use Rattle.std.proofs.lemmas.Bool.{cases_lt}
use Rattle.std.proofs.Math.Nat.{zero-mul}
use Rattle.ir_model.specs.Layout.{Shape, array_of}
use Rattle.ir_layouts.specs.declared.measure.Measure.{Measure}
use Rattle.ir_layouts.specs.Measures.{capped, IsMeasure}
use Rattle.ir_layouts.proofs.Sizes.{length_copies}

pub capped_small : (n : ℕ) → n ≤ 2 ^ 32 → capped n ≡ n
capped_small n l = omega arith

pub capped_large : (n : ℕ) → 2 ^ 32 ≤ n → capped n ≡ 2 ^ 32
capped_large n l = omega arith

times_least : (n m : ℕ) → m ≤ suc n * m
times_least n m = grind arith

capped_times : (n a : ℕ) → capped (n * capped a) ≡ capped (n * a)
capped_times zero a = ap capped (zero-mul (capped a) ∙ sym (zero-mul a))
capped_times (suc n) a = by_size (cases_lt a (2 ^ 32))
  where
    by_size : (a < 2 ^ 32) ⊎ (2 ^ 32 ≤ a) → capped (suc n * capped a) ≡ capped (suc n * a)
    by_size (inl l) = ap (λ x. capped (suc n * x)) (capped_small a (omega arith))
    by_size (inr l) =
        let e : capped a ≡ 2 ^ 32 = capped_large a l in
        let p = times_least n (capped a) in
        let q = times_least n a in
        capped_large (suc n * capped a) (omega (arith, e, p)) ∙ sym (capped_large (suc n * a) (omega (arith, q, l)))

pub measure_array : (n : ℕ) (m : Measure) (s : Shape) → IsMeasure m s → IsMeasure (record { size = capped (n * m.size); align = m.align; cells = capped (n * m.cells) }) (array_of n s)
measure_array n m s h = (
  ap (λ x. capped (n * x)) h.0 ∙ capped_times n s.size,
  (h.1.0, ap (λ x. capped (n * x)) h.1.1 ∙ (capped_times n (length s.cells) ∙ ap capped (sym (length_copies n 0 s.size s.cells)))),
)

-- The least power of two, where none below 2 ^ 32 passes.
use Rattle.std.proofs.Common.{◌≡◌, ℕ, ◌<◌, ◌≤◌, ◌+◌, ◌*◌, ◌/◌, ◌%◌, ◌^◌, Bool, true, false, nat_eq, refl, sym, subst, ap, ◌∙◌, arith}
use Rattle.std.specs.Prelude.{unwrap_or}
use Rattle.std.proofs.lemmas.Bool.{cases_lt}
use mathlib.Core.Logic.{⊎_elim}
use Rattle.std.proofs.lemmas.Nat.{one_shl}
use Rattle.std.proofs.lemmas.Bool.{eq-eqb}
use Rattle.plan_model.specs.declared.graph.Cover.{Cover}
use Rattle.plan_model.specs.Covers.{least_power, lowest, highest, joined_size}
use Rattle.plan_model.proofs.Powers.{least_power_is}
use Rattle.base_laws.proofs.Powers.{none_found}

pub least_power_last : (test : ℕ → Bool) → ((i : ℕ) → 5 ≤ i → i < 32 → test (2 ^ i) ≡ false) → least_power test ≡ 2 ^ 32
unfolding least_power
least_power_last test f = by (test (2 ^ 32)) refl
  where
    all : test (2 ^ 32) ≡ false → (i : ℕ) → 5 ≤ i → i < 5 + 28 → test (2 ^ i) ≡ false
    all e i u v = ⊎_elim (λ lt. f i u lt) (λ le. let s : i ≡ 32 = omega arith in ap (λ k. test (2 ^ k)) s ∙ e) (cases_lt i 32)

    by : (b : Bool) → test (2 ^ 32) ≡ b → least_power test ≡ 2 ^ 32
    by true e = least_power_is test 32 (omega arith) (omega arith) e f
    by false e = ap (λ o. unwrap_or o (2 ^ 32)) (none_found test 5 28 (all e))

-- the size at which two covers are found to lie in one range
pub size_found : (c d : Cover) (e low high size : ℕ) → 5 ≤ e → e < 32 → size ≡ 1 * 2 ^ e % 2 ^ 64 → low ≡ lowest c d → high ≡ highest c d → low / size ≡ high / size
    → ((k : ℕ) → 5 ≤ k → k < e → nat_eq (lowest c d / 2 ^ k) (highest c d / 2 ^ k) ≡ false) → size ≡ joined_size c d
size_found c d e low high size from to s l h same none =
    let power : size ≡ 2 ^ e = s ∙ one_shl e 64 (omega arith) in
    let passes : nat_eq (lowest c d / 2 ^ e) (highest c d / 2 ^ e) ≡ true =
    eq-eqb (lowest c d / 2 ^ e) (highest c d / 2 ^ e) (subst (λ n. lowest c d / n ≡ highest c d / n) power (ap (λ n. n / size) (sym l) ∙ (same ∙ ap (λ n. n / size) h))) in
    power ∙ sym (least_power_is (λ n. nat_eq (lowest c d / n) (highest c d / n)) e from (omega arith) passes none)

-- The size of the tables' block is a power of two.
use Rattle.std.proofs.Common.{◌≡◌, ℕ, zero, suc, ◌+◌, ◌-◌, ◌^◌, ◌≤◌, ◌⊎◌, inl, inr, ⊎_elim, Bool, true, false, List, [], ◌∷◌, map, max, cond, Some, refl, ap, ◌∙◌, arith, pow_pos, nat_le}
use Rattle.std.proofs.lemmas.Bool.Decides.{nat_tests}
use Rattle.std.proofs.lemmas.Nat.{pow-add}
use Rattle.std.specs.Prelude.{find, unwrap_or}
use Rattle.std.specs.List.{range_with_len}
use Rattle.std.specs.Int.{IsPowerOfTwo}
use Rattle.machine_protection.specs.Regions.{size_log}
use Rattle.plan_model.specs.Covers.{powers_of_two, least_power}
use Rattle.plan_model.specs.Blocks.{block_size_for}
use Rattle.base_laws.specs.Lists.{Each}
use Rattle.monitor_model.specs.declared.tables.CompRecord.{CompRecord}
use Rattle.monitor_model.specs.declared.tables.Tables.{Tables}
use Rattle.monitor_model.specs.Layout.{greatest_code, tables_size, area_end}

-- a power of two that is at least 32
abbrev pub IsSize : ℕ → Type 0
IsSize n = IsPowerOfTwo n × (32 ≤ n)

size_of_power : (k : ℕ) → 5 ≤ k → IsSize (2 ^ k)
size_of_power k h = ((k, refl), (let e : k ≡ 5 + (k - 5) = omega (arith, h) in let p = pow_pos (k - 5) in let q = ap (λ n. 2 ^ n) e ∙ pow-add 2 5 (k - 5) in omega (arith, p, q)))

each_size : (a n : ℕ) → 5 ≤ a → Each IsSize (map (λ k. 2 ^ k) (range_with_len a n))
each_size a zero h = tt
each_size a (suc n) h = (size_of_power a h, each_size (a + 1) n (omega (arith, h)))

found_size : (test : ℕ → Bool) (xs : List ℕ) (d : ℕ) → Each IsSize xs → IsSize d → IsSize (unwrap_or (find test xs) d)
found_size test [] d e h = h
found_size test (x ∷ xs) d e h = by_test (test x) (found_size test xs d e.1 h)
  where
    by_test : (b : Bool) → IsSize (unwrap_or (find test xs) d) → IsSize (unwrap_or (cond b (Some x) (find test xs)) d)
    by_test true l = e.0
    by_test false l = l

block_size_is : (n : ℕ) → IsSize (block_size_for n)
unfolding block_size_for least_power
block_size_is n = found_size (λ k. nat_le n k) powers_of_two (2 ^ 32) (each_size 5 28 (omega arith)) (size_of_power 32 (omega arith))

max_is : (a b : ℕ) → (max a b ≡ a) ⊎ (max a b ≡ b)
max_is a b = grind (arith, nat_tests)

max_above : (a b : ℕ) → a ≤ max a b
max_above a b = grind (arith, nat_tests)

greatest_is : (cs : List CompRecord) → (greatest_code cs ≡ 0) ⊎ IsPowerOfTwo (greatest_code cs)
greatest_is [] = inl refl
greatest_is (c ∷ cs) = ⊎_elim (λ e. inr (size_log c.code, e)) (λ e. ⊎_elim (λ z. inl (e ∙ z)) (λ p. inr (p.0, e ∙ p.1)) (greatest_is cs)) (max_is (2 ^ size_log c.code) (greatest_code cs))

pub tables_size_is : (t : Tables) → IsSize (tables_size t)
unfolding tables_size
tables_size_is t =
    let b : ℕ = block_size_for (area_end t - t.base) in
    let s = block_size_is (area_end t - t.base) in
    let m = max_above b (greatest_code t.comps) in
    let least : 32 ≤ max b (greatest_code t.comps) = let l = s.1 in omega (arith, m, l) in
    (⊎_elim (λ e. (s.0.0, e ∙ s.0.1)) (λ e. ⊎_elim (λ z. absurd (omega (arith, least, e, z))) (λ p. (p.0, e ∙ p.1)) (greatest_is t.comps)) (max_is b (greatest_code t.comps)), least)

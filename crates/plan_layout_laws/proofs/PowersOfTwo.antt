-- Sizes of blocks are powers of two.
use Rattle.std.proofs.Common.{◌≡◌, ℕ, ◌+◌, ◌-◌, ◌*◌, ◌^◌, ◌<◌, ◌≤◌, ◌⊎◌, inl, inr, List, [], ◌∷◌, map, max, refl, sym, ap, subst, ◌∙◌, arith}
use Rattle.std.specs.List.{fold}
use Rattle.std.proofs.lemmas.Nat.{pow-add, pow_pos}
use Rattle.std.proofs.lemmas.Bool.{cases_lt}
use mathlib.Core.Logic.{⊎_elim}
use Rattle.plan_model.specs.declared.plan.Sizes.{Sizes}
use Rattle.plan_model.specs.Choices.{greatest}
use Rattle.plan_model.specs.Blocks.{block_size_for}
use Rattle.plan_model.specs.FlashPlacement.{flash_blocks, code_blocks, tables_block}
use Rattle.base_ranges.specs.Ranges.{IsPowerBetween}
use Rattle.base_laws.specs.Lists.{Each}
use Rattle.base_laws.proofs.Powers.{smaller_exponent}
use Rattle.plan_model.proofs.Powers.{block_found}

pub record IsPower (x : ℕ) : Type 0 where
  pub exponent : ℕ
  pub is : x ≡ 2 ^ exponent

pub mebibyte : IsPower 0x100000
mebibyte = record { exponent = 20; is = refl }

-- ---- blocks

pub block_is_power : (n : ℕ) → IsPower (block_size_for n)
block_is_power n = by (block_found n)
  where
    by : (IsPowerBetween 5 32 (block_size_for n) × (n ≤ block_size_for n)) ⊎ (block_size_for n ≡ 2 ^ 32) → IsPower (block_size_for n)
    by (inl h) = record { exponent = h.0.0; is = h.0.3 }
    by (inr e) = record { exponent = 32; is = e }

-- no block is empty
pub block_positive : (n : ℕ) → 0 < block_size_for n
block_positive n = let q = block_is_power n in let e = q.is in let some = pow_pos q.exponent in omega arith

codes_are_powers : (ns : List ℕ) → Each IsPower (map block_size_for ns)
codes_are_powers [] = tt
codes_are_powers (n ∷ ns) = (block_is_power n, codes_are_powers ns)

-- ---- the greatest of powers is one, or there is none

pub greater : (m x : ℕ) → (m ≡ 0) ⊎ IsPower m → IsPower x → IsPower (max m x)
greater m x h p = ⊎_elim (λ e. let s : x ≡ max m x = omega arith in subst IsPower s p) (λ q. pick q) h
  where
    pick : IsPower m → IsPower (max m x)
    pick q = ⊎_elim (λ l. let s : x ≡ max m x = omega arith in subst IsPower s p) (λ l. let s : m ≡ max m x = omega arith in subst IsPower s q) (cases_lt m x)

greatest_from : (m : ℕ) (xs : List ℕ) → (m ≡ 0) ⊎ IsPower m → Each IsPower xs → (fold max m xs ≡ 0) ⊎ IsPower (fold max m xs)
greatest_from m [] h e = h
greatest_from m (x ∷ xs) h e = greatest_from (max m x) xs (inr (greater m x h e.0)) e.1

tables_are_power : (s : Sizes) → IsPower (tables_block s)
tables_are_power s =
    let b = block_size_for s.tables in
    let g = greatest (code_blocks s) in
    ⊎_elim
    (λ (e : g ≡ 0). let same : b ≡ max b g = omega arith in subst IsPower same (block_is_power s.tables))
    (λ (q : IsPower g). greater b g (inr (block_is_power s.tables)) q)
    (greatest_from 0 (code_blocks s) (inl refl) (codes_are_powers s.code))

pub flash_powers : (s : Sizes) → Each IsPower (flash_blocks s)
unfolding flash_blocks
flash_powers s = (tables_are_power s, codes_are_powers s.code)

-- ---- the lesser of two powers divides the other

pub quotient : (x y : ℕ) → IsPower x → IsPower y → x ≤ y → (q : ℕ) × (y ≡ q * x)
quotient x y p q l =
    let a = p.exponent in
    let b = q.exponent in
    let e = p.is in
    let f = q.is in
    let small : 2 ^ a ≤ 2 ^ b = subst (λ n. n ≤ 2 ^ b) e (subst (λ n. x ≤ n) f l) in
    let le = smaller_exponent a b small in
    let joined : b ≡ b - a + a = omega arith in
    (2 ^ (b - a), f ∙ (ap (λ n. 2 ^ n) joined ∙ (pow-add 2 (b - a) a ∙ ap (λ n. 2 ^ (b - a) * n) (sym e))))

-- Flash has a multiple of four bytes.
use Rattle.std.proofs.Common.{◌≡◌, ℕ, zero, suc, ◌+◌, ◌^◌, ◌%◌, ◌≤◌, Bool, true, false, cond, List, [], ◌∷◌, map, max, sum, Some, nat_le, refl, lit<, arith}
use Rattle.std.specs.Prelude.{find, unwrap_or}
use Rattle.std.specs.List.{range_with_len, fold}
use Rattle.plan_model.specs.declared.plan.Sizes.{Sizes}
use Rattle.plan_model.specs.Choices.{greatest}
use Rattle.plan_model.specs.Covers.{least_power}
use Rattle.plan_model.specs.Blocks.{block_size_for}
use Rattle.plan_model.specs.FlashPlacement.{flash_blocks, code_blocks, tables_block, flash_needed}
use Rattle.base_laws.proofs.Powers.{power_split}
use Rattle.base_laws.proofs.Lists.{sum_first as sum_cons}

found_fours : (test : ℕ → Bool) (a n : ℕ) → 2 ≤ a → unwrap_or (find test (map (λ k. 2 ^ k) (range_with_len a n))) (2 ^ 32) % 4 ≡ 0
found_fours test a zero h = refl
found_fours test a (suc n) h = by (test (2 ^ a)) (found_fours test (a + 1) n (omega (arith, h)))
  where
    by : (b : Bool) → unwrap_or (find test (map (λ k. 2 ^ k) (range_with_len (a + 1) n))) (2 ^ 32) % 4 ≡ 0
        → unwrap_or (cond b (Some (2 ^ a)) (find test (map (λ k. 2 ^ k) (range_with_len (a + 1) n)))) (2 ^ 32) % 4 ≡ 0
    by true ih = let m = power_split 2 a h in omega (arith, m)
    by false ih = ih

block_fours : (n : ℕ) → block_size_for n % 4 ≡ 0
unfolding block_size_for least_power
block_fours n = found_fours (nat_le n) 5 28 (lit< tt)

greater : (a b : ℕ) → a % 4 ≡ 0 → b % 4 ≡ 0 → max a b % 4 ≡ 0
greater a b e g = omega (arith, e, g)

greatest_fours : (a : ℕ) (ns : List ℕ) → a % 4 ≡ 0 → fold max a (map block_size_for ns) % 4 ≡ 0
greatest_fours a [] e = e
greatest_fours a (n ∷ ns) e = greatest_fours (max a (block_size_for n)) ns (greater a (block_size_for n) e (block_fours n))

sum_fours : (ns : List ℕ) → sum (map block_size_for ns) % 4 ≡ 0
sum_fours [] = refl
sum_fours (n ∷ ns) = let e = sum_cons (block_size_for n) (map block_size_for ns) in let h = sum_fours ns in let b = block_fours n in omega (arith, e, h, b)

pub flash_fours : (s : Sizes) → flash_needed s % 4 ≡ 0
unfolding flash_blocks
flash_fours s =
    let e = sum_cons (tables_block s) (code_blocks s) in
    let h = sum_fours s.code in
    let t = greater (block_size_for s.tables) (greatest (code_blocks s)) (block_fours s.tables) (greatest_fours 0 s.code refl) in
    omega (arith, e, h, t)

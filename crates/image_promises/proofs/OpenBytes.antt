-- The words that start-up fills a block with stand in its open eighths.
use Rattle.std.proofs.Common.{◌≡◌, ℕ, zero, suc, ◌+◌, ◌-◌, ◌*◌, ◌/◌, ◌^◌, ◌<◌, ◌≤◌, Bool, true, false, ◌&&◌, cond, nat_lt, refl, sym, ap, ◌∙◌, subst, pow_pos, arith}
use Rattle.std.proofs.lemmas.Bool.{leb-true, and_parts as both}
use Rattle.ir_model.specs.Layout.{rounded_up}
use Rattle.ir_model.proofs.Counting.{rounded_at_least}
use Rattle.plan_model.specs.Covers.{least_power}
use Rattle.plan_model.specs.Blocks.{block_size_for, has_eighths, open_eighths}
use Rattle.plan_layout_laws.specs.RamLaws.{open_bytes}
use Rattle.plan_model.proofs.Powers.{small_block}
use Rattle.base_laws.proofs.Powers.{smaller_exponent, power_split}

rounded : (n m : ℕ) → n ≤ 4 * m → 4 * (rounded_up n 4 / 4) ≤ 4 * m
rounded n m h = omega (arith, h)

all_in : (n d z : ℕ) → d ≡ z / 8 → 0 < d → n ≤ z / 8 * open_eighths z n
unfolding open_eighths
all_in n d z e pos = subst (λ x. n ≤ x * ((n + (x - 1)) / x)) e (let h : n ≤ (n + (d - 1)) / d * d = rounded_at_least n d pos in grind (arith, h))

positive : (n : ℕ) → 256 ≤ block_size_for n → 0 < n
unfolding block_size_for least_power
positive zero h = absurd (omega (arith, h))
positive (suc n) h = omega arith

regroup : (m o : ℕ) → 32 * m * o ≡ 4 * (8 * m * o)
regroup m o = grind arith

pub words_held : (n : ℕ) → block_size_for n < 2 ^ 32 → (4 * (rounded_up n 4 / 4) ≤ open_bytes (block_size_for n) n) × (0 < open_bytes (block_size_for n) n)
words_held n small = by (has_eighths (block_size_for n) && nat_lt (open_eighths (block_size_for n) n) 8) refl
  where
    z : ℕ
    z = block_size_for n

    by : (c : Bool) → (has_eighths (block_size_for n) && nat_lt (open_eighths (block_size_for n) n) 8) ≡ c → (4 * (rounded_up n 4 / 4) ≤ cond c (block_size_for n / 8 * open_eighths (block_size_for n) n) (block_size_for n)) × (0 < cond c (block_size_for n / 8 * open_eighths (block_size_for n) n) (block_size_for n))
    by false h =
        let is = small_block n small in
        let k = is.0.0 in
        let e = is.0.3 in
        let m = power_split 2 k (omega (arith, is.0.1)) in
        let q = pow_pos (k - 2) in
        let r = is.1 in
        (subst (λ x. 4 * (rounded_up n 4 / 4) ≤ x) (sym (e ∙ m)) (rounded n (2 ^ (k - 2)) (omega (arith, r, e, m))), omega (arith, e, m, q))
    by true h =
        let is = small_block n small in
        let k = is.0.0 in
        let e = is.0.3 in
        let large = leb-true 256 (block_size_for n) (both (has_eighths (block_size_for n)) (nat_lt (open_eighths (block_size_for n) n) 8) h).0 in
        let le = smaller_exponent 8 k (omega (arith, large, e)) in
        let m = power_split 8 k le in
        let q = pow_pos (k - 8) in
        let o = open_eighths (block_size_for n) n in
        let d : block_size_for n / 8 ≡ 32 * 2 ^ (k - 8) = omega (arith, e, m) in
        let fits = all_in n (32 * 2 ^ (k - 8)) (block_size_for n) (sym d) (omega (arith, q)) in
        let v : block_size_for n / 8 * o ≡ 4 * (8 * 2 ^ (k - 8) * o) = ap (λ x. x * o) d ∙ regroup (2 ^ (k - 8)) o in
        let some : 0 < n = positive n large in
        (subst (λ x. 4 * (rounded_up n 4 / 4) ≤ x) (sym v) (rounded n (8 * 2 ^ (k - 8) * o) (omega (arith, fits, v))), omega (arith, fits, some))

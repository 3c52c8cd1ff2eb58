-- The number of a list of bits, bit by bit from the last.
use Rattle.std.proofs.Common.{◌≡◌, ℕ, ◌<◌, ◌≤◌, ◌+◌, ◌-◌, ◌*◌, ◌^◌, Bool, cond, List, ◌∷◌, length, map, get_or, take, drop, min, ap, sym, ◌∙◌, add-one, arith}
use Rattle.std.proofs.Math.Nat.{pow-succ'}
use Rattle.std.proofs.lemmas.List.{drop_more, get_or-take, length-take, drop_all}
use Rattle.plan_model.specs.InitialGraph.{number_of_bits}

-- one more bit
pub bits_more : {X : Type 0} (does : X → Bool) (xs : List X) (most left mask bit : ℕ) (d : X) → 0 < left → left ≤ length xs → left ≤ most
    → mask ≡ number_of_bits (map does (drop left (take most xs))) → bit ≡ cond (does (get_or xs (left - 1) d)) 1 0
    → 2 * mask + bit ≡ number_of_bits (map does (drop (left - 1) (take most xs)))
bits_more does xs most left mask bit d p l m e b =
    let size = length-take most xs in
    let there : left - 1 < length (take most xs) = omega arith in
    let again : left - 1 + 1 ≡ left = omega arith in
    let item : get_or (take most xs) (left - 1) d ≡ get_or xs (left - 1) d = get_or-take most xs (left - 1) d (omega arith) in
    let opened : drop (left - 1) (take most xs) ≡ get_or xs (left - 1) d ∷ drop left (take most xs) =
    drop_more (take most xs) (left - 1) d there ∙ (ap (λ x. x ∷ drop (left - 1 + 1) (take most xs)) item ∙ ap (λ n. get_or xs (left - 1) d ∷ drop n (take most xs)) again) in
    let turned : 2 * mask + bit ≡ bit + 2 * mask = omega arith in
    turned ∙ (ap (λ n. n + 2 * mask) b ∙ (ap (λ n. cond (does (get_or xs (left - 1) d)) 1 0 + 2 * n) e ∙ ap (λ ys. number_of_bits (map does ys)) (sym opened)))

-- no bit
pub no_bits : {X : Type 0} (does : X → Bool) (xs : List X) (most left : ℕ) → left ≡ min (length xs) most → 0 ≡ number_of_bits (map does (drop left (take most xs)))
no_bits does xs most left e =
    let size = length-take most xs in
    ap (λ ys. number_of_bits (map does ys)) (sym (drop_all left (take most xs) (omega arith)))

power_more : (k : ℕ) → 2 ^ (k + 1) ≡ 2 * 2 ^ k
power_more k = ap (λ n. 2 ^ n) (add-one k) ∙ pow-succ' 2 k

-- it stays small
pub bits_small : (most left mask bit : ℕ) → 0 < left → left ≤ most → mask < 2 ^ (most - left) → bit ≤ 1 → 2 * mask + bit < 2 ^ (most - (left - 1))
bits_small most left mask bit p m l b =
    let k : most - (left - 1) ≡ most - left + 1 = omega arith in
    let twice : 2 ^ (most - (left - 1)) ≡ 2 * 2 ^ (most - left) = ap (λ n. 2 ^ n) k ∙ power_more (most - left) in
    omega (arith, twice)

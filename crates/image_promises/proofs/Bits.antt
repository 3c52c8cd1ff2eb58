-- The bits of a number that is told by its bits.
use Rattle.std.proofs.Common.{◌≡◌, ℕ, zero, suc, ◌<◌, ◌+◌, ◌*◌, ◌/◌, ◌%◌, Bool, true, false, cond, List, [], ◌∷◌, length, map, take, get_or, refl, ap, sym, ◌∙◌, lit<, arith}
use Rattle.std.specs.Int.{bit_at}
use Rattle.std.proofs.lemmas.Nat.{div-add-mod', mod_below}
use Rattle.std.proofs.lemmas.Nat.Bits.{bit_at-suc, bit_at-zero, bit_at_lowest}
use Rattle.std.proofs.lemmas.List.{get_or-map, get_or-take, length-map, length-take}
use Rattle.plan_model.specs.declared.needs.Needs.{Needs}
use Rattle.plan_model.specs.InitialGraph.{number_of_bits, mask_where}

lowest_bit : (b : Bool) (m : ℕ) → b ≡ true → (cond b 1 0 + 2 * m) % 2 ≡ 1
lowest_bit true m e = let d = div-add-mod' (1 + 2 * m) 2 in let l = mod_below (1 + 2 * m) 2 (lit< tt) in omega (arith, d, l)
lowest_bit false m e = cc

other_bits : (b : Bool) (m : ℕ) → (cond b 1 0 + 2 * m) / 2 ≡ m
other_bits true m = let d = div-add-mod' (1 + 2 * m) 2 in let l = mod_below (1 + 2 * m) 2 (lit< tt) in omega (arith, d, l)
other_bits false m = let d = div-add-mod' (0 + 2 * m) 2 in let l = mod_below (0 + 2 * m) 2 (lit< tt) in omega (arith, d, l)

-- a bit that is told is set
pub bit_told : (bs : List Bool) (i : ℕ) → get_or bs i false ≡ true → bit_at (number_of_bits bs) i ≡ 1
bit_told [] i e = cc
bit_told (b ∷ bs) zero e = bit_at_lowest (number_of_bits (b ∷ bs)) ∙ lowest_bit b (number_of_bits bs) e
bit_told (b ∷ bs) (suc i) e =
    bit_at-suc (number_of_bits (b ∷ bs)) i ∙ (ap (λ m. bit_at m i) (other_bits b (number_of_bits bs)) ∙ bit_told bs i e)

-- the mask has the bit of a lendable local that passes the test
pub mask_bit : (n : Needs) (does : ℕ × ℕ → Bool) (i : ℕ) → i < length n.lendable → i < 32 → does (get_or n.lendable i (0, 0)) ≡ true → bit_at (mask_where n does) i ≡ 1
mask_bit n does i l m t =
    let size = length-take 32 n.lendable in
    let there : i < length (take 32 n.lendable) = omega arith in
    bit_told (map does (take 32 n.lendable)) i
    (get_or-map does (take 32 n.lendable) i (0, 0) false there ∙ (ap does (get_or-take 32 n.lendable i (0, 0) m) ∙ t))

-- ---- the other way

is_lowest : (b : Bool) (m : ℕ) → (cond b 1 0 + 2 * m) % 2 ≡ 1 → b ≡ true
is_lowest true m e = refl
is_lowest false m e = absurd (omega (arith, e))

pub zero_bit : (i : ℕ) → bit_at 0 i ≡ 1 → ⊥
zero_bit i e = let z = bit_at-zero i in omega (arith, e, z)

-- a bit that is set was told
bit_was_told : (bs : List Bool) (i : ℕ) → bit_at (number_of_bits bs) i ≡ 1 → (i < length bs) × (get_or bs i false ≡ true)
bit_was_told [] i e = absurd (zero_bit i e)
bit_was_told (b ∷ bs) zero e = (omega arith, is_lowest b (number_of_bits bs) (sym (bit_at_lowest (number_of_bits (b ∷ bs))) ∙ e))
bit_was_told (b ∷ bs) (suc i) e =
    let r = bit_was_told bs i (sym (ap (λ m. bit_at m i) (other_bits b (number_of_bits bs))) ∙ sym (bit_at-suc (number_of_bits (b ∷ bs)) i) ∙ e) in
    let lt = r.0 in
    (omega (arith, lt), r.1)

pub mask_was_told : (n : Needs) (does : ℕ × ℕ → Bool) (k : ℕ) → bit_at (mask_where n does) k ≡ 1 → (k < length n.lendable) × (does (get_or n.lendable k (0, 0)) ≡ true)
mask_was_told n does k e =
    let r = bit_was_told (map does (take 32 n.lendable)) k e in
    let m = length-map (take 32 n.lendable) does in
    let s = length-take 32 n.lendable in
    let lt = r.0 in
    let there : k < length (take 32 n.lendable) = omega (arith, lt, m) in
    let few : k < 32 = omega (arith, there, s) in
    (omega (arith, there, s), sym (ap does (get_or-take 32 n.lendable k (0, 0) few)) ∙ sym (get_or-map does (take 32 n.lendable) k (0, 0) false there) ∙ r.1)

-- Eighths of a stack: what is rounded up of what is taken is rounded down of what is left.
use Rattle.std.proofs.Common.{◌≡◌, ℕ, ◌+◌, ◌-◌, ◌*◌, ◌/◌, ◌^◌, ◌<◌, ◌≤◌, ◌⊎◌, inl, inr, refl, ap, ◌∙◌, arith}
use Rattle.std.proofs.lemmas.Nat.{div-add-mod', mod_below, div-mul-add, mul-le, pow-add, pow_pos}
use Rattle.std.proofs.lemmas.Bool.{cases_lt}
use Rattle.base_ranges.specs.Ranges.{IsPowerBetween}
use Rattle.ir_model.specs.Layout.{rounded_up}

-- a stack of eight eighths
pub record HasEighths (stack : ℕ) : Type 0 where
  pub eighth : ℕ
  pub some_ : 0 < eighth
  pub whole : stack ≡ 8 * eighth

pub has_eighths : (stack : ℕ) → IsPowerBetween 9 16 stack → HasEighths stack
has_eighths stack h =
    let k = h.0 in
    let l = h.1 in
    let m : k ≡ 3 + (k - 3) = omega arith in
    let e : stack ≡ 2 ^ 3 * 2 ^ (k - 3) = h.3 ∙ (ap (λ (i : ℕ). 2 ^ i) m ∙ pow-add 2 3 (k - 3)) in
    record { eighth = 2 ^ (k - 3); some_ = pow_pos (k - 3); whole = e }

-- a number of times e that is at most eight times e is at most eight
few_times : (k e : ℕ) → 0 < e → k * e ≤ 8 * e → k ≤ 8
few_times k e pos h = by (cases_lt 8 k)
  where
    by : (8 < k) ⊎ (k ≤ 8) → k ≤ 8
    by (inr l) = l
    by (inl l) =
        let m : 9 ≤ k = omega arith in
        let q : 9 * e ≤ k * e = mul-le 9 e k e m (omega arith) in
        absurd (omega arith)

-- k times e is t rounded up
pub rounded_parts : (t e : ℕ) → 0 < e → (k : ℕ) × (rounded_up t e ≡ k * e) × (t ≤ k * e) × (k * e < t + e)
rounded_parts t e pos =
    let d = div-add-mod' (t + (e - 1)) e in
    let m = mod_below (t + (e - 1)) e pos in
    ((t + (e - 1)) / e, refl, omega arith, omega arith)

-- what is left of eight eighths when t is taken, rounded down, and t rounded up, are all of them
pub both_sides : (e q t : ℕ) → 0 < e → q + t ≡ 8 * e → rounded_up t e ≤ 8 * e → q / e * e + rounded_up t e ≡ 8 * e
both_sides e q t pos whole fits =
    let r = rounded_parts t e pos in
    let k = r.0 in
    let kr = r.1 in
    let low = r.2 in
    let high = r.3 in
    let small : k ≤ 8 = few_times k e pos (omega arith) in
    let m = 8 - k in
    let mk : m + k ≡ 8 = omega arith in
    let me : (m + k) * e ≡ 8 * e = ap (λ (x : ℕ). x * e) mk in
    let b = k * e - t in
    let be : b < e = omega arith in
    let qe : q ≡ m * e + b = omega arith in
    let de : q / e ≡ m = ap (λ (x : ℕ). x / e) qe ∙ div-mul-add m e b be in
    let pe : q / e * e ≡ m * e = ap (λ (x : ℕ). x * e) de in
    omega arith

-- A number behind its sign.
use Rattle.std.proofs.Common.{◌≡◌, ◌≤◌, ◌<◌, ℕ, ◌-◌, ◌^◌, min, List, [], ◌∷◌, refl, ap, sym, ◌∙◌, Option, Some, None, length, take, drop, get_or, arith, inl, inr}
use Rattle.std.proofs.lemmas.Bool.{cases_lt}
use Rattle.std.proofs.lemmas.Bool.Decides.{nat_tests}
use Rattle.std.proofs.lemmas.Grind.{common_steps}
use Rattle.base_numerals.specs.Numerals.{magnitude, negative, numeral}
use Rattle.base_numerals.specs.Capped.{capped}

negative_large : (n : ℕ) → 2 ^ 31 < n → negative (Some n) ≡ negative (Some (2 ^ 32))
negative_large n h = grind (arith, nat_tests)

negative-capped : (o : Option ℕ) → negative (capped o) ≡ negative o
negative-capped None = refl
negative-capped (Some n) =
    elim (cases_lt n (2 ^ 32)) [
      | inl l ↦ (let e : min n (2 ^ 32) ≡ n = omega arith in ap (λ m. negative (Some m)) e)
      | inr g ↦ (let e : min n (2 ^ 32) ≡ 2 ^ 32 = omega arith in ap (λ m. negative (Some m)) e ∙ sym (negative_large n (omega arith)))
    ]

-- the bytes behind the sign, as a slice pattern names them
behind_first : (b : ℕ) (bs : List ℕ) → take (length (b ∷ bs) - 1) (drop 1 (b ∷ bs)) ≡ bs
behind_first b bs = grind (arith, common_steps)

pub numeral_negative : (bytes : List ℕ) → 1 ≤ length bytes → get_or bytes 0 0 ≡ 45
    → numeral bytes ≡ negative (capped (magnitude (take (length bytes - 1) (drop 1 bytes))))
unfolding numeral
numeral_negative [] l h = absurd (omega arith)
numeral_negative (b ∷ bs) l h = rw (h, behind_first b bs, negative-capped (magnitude bs)) refl

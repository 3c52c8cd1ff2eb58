-- A number below 2^32 is read back from its decimal digits.
use Rattle.std.proofs.Common.{◌≡◌, ◌<◌, ℕ, ◌+◌, ◌*◌, ◌-◌, ◌^◌, List, [], ◌∷◌, true, false, ◌&&◌, Some, None, length, refl, ap, ◌∙◌, arith, rules, nat_lt, nat_eq}
use Rattle.std.proofs.lemmas.Bool.Decides.{nat_tests}
use Rattle.std.proofs.lemmas.Fmt.{digits_decimal, digits_value-decimal, decimal_nonempty}
use Rattle.std.proofs.lemmas.Str.Parse.{IsNumeralModel, numerals_by_fold}
use Rattle.std.specs.Fmt.{decimal}
use Rattle.std.specs.Str.{all_ascii_digits}
use Rattle.std.specs.Char.{is_ascii_digit}
use Rattle.base_numerals.specs.declared.Numeral.TheVariants.{Value}
use Rattle.base_numerals.specs.Numerals.{numeral, magnitude, and_more, decimal_digit, positive}
use Rattle.std.proofs.lemmas.Bool.{and_parts, cond-true, cond-false}

-- the number of digits behind others of this value
read_on : ℕ → List ℕ → ℕ
read_on n [] = n
read_on n (c ∷ cs) = read_on (10 * n + (c - 48)) cs

own : IsNumeralModel (λ ds. all_ascii_digits ds ≡ true) (read_on 0)
unfolding read_on
own = numerals_by_fold _ (search rules) read_on (search rules)

digit_is : (b : ℕ) → is_ascii_digit b ≡ true → decimal_digit b ≡ Some (b - 48)
digit_is b h = grind (arith, nat_tests)

not_a_sign : (b : ℕ) → is_ascii_digit b ≡ true → nat_eq b 45 ≡ false
not_a_sign b h = grind (arith, nat_tests)

not_a_prefix : (a b : ℕ) → is_ascii_digit b ≡ true → nat_eq a 48 && nat_eq b 120 ≡ false
not_a_prefix a b h = grind (arith, nat_tests)

and_more_is : (n : ℕ) (ds : List ℕ) → all_ascii_digits ds ≡ true → and_more decimal_digit 10 n ds ≡ Some (read_on n ds)
unfolding read_on
and_more_is n [] h = refl
and_more_is n (d ∷ ds) h =
    let p = and_parts (is_ascii_digit d) (all_ascii_digits ds) h in
    ap (λ o. elim o [ Some e ↦ and_more decimal_digit 10 (10 * n + e) ds | None ↦ None ]) (digit_is d p.0)
    ∙ and_more_is (10 * n + (d - 48)) ds p.1

magnitude_is : (ds : List ℕ) → 0 < length ds → all_ascii_digits ds ≡ true → magnitude ds ≡ Some (read_on 0 ds)
magnitude_is [] l h = absurd (omega arith)
magnitude_is (a ∷ []) l h = and_more_is 0 (a ∷ []) h
magnitude_is (a ∷ b ∷ ds) l h =
    let p = and_parts (is_ascii_digit a) (all_ascii_digits (b ∷ ds)) h in
    let q = and_parts (is_ascii_digit b) (all_ascii_digits ds) p.1 in
    cond-false _ _ _ (not_a_prefix a b q.0) ∙ and_more_is 0 (a ∷ b ∷ ds) h

numeral_is : (ds : List ℕ) (n : ℕ) → 0 < length ds → all_ascii_digits ds ≡ true → read_on 0 ds ≡ n → n < 2 ^ 32 → numeral ds ≡ Value n
unfolding numeral
numeral_is [] n l h e w = absurd (omega arith)
numeral_is (d ∷ ds) n l h e w =
    let p = and_parts (is_ascii_digit d) (all_ascii_digits ds) h in
    let small : nat_lt n (2 ^ 32) ≡ true = grind (arith, nat_tests) in
    cond-false _ _ _ (not_a_sign d p.0)
    ∙ ap positive (magnitude_is (d ∷ ds) l h ∙ ap Some e)
    ∙ cond-true _ _ _ small

pub numeral_decimal : (n : ℕ) → n < 2 ^ 32 → numeral (decimal n) ≡ Value n
numeral_decimal n w =
    let wide : n < 2 ^ 64 = omega arith in
    numeral_is (decimal n) n (decimal_nonempty n wide) (digits_decimal own n wide) (digits_value-decimal own n wide) w

-- Numbers in texts: decimal digits, or `0x` and hexadecimal digits of either case, with an optional `-` before them.
use Rattle.std.specs.Prelude.{ℕ, ◌+◌, ◌-◌, ◌*◌, ◌^◌, List, [], ◌∷◌, Bool, ◌&&◌, Option, Some, None, nat_eq, nat_lt, nat_le, if◌then◌else◌}
use Rattle.base_numerals.specs.declared.Numeral.{Numeral}
use Rattle.base_numerals.specs.declared.Numeral.TheVariants.{Malformed, TooWide, Value}

abbrev pub is_between : (low high byte : ℕ) → Bool
is_between low high b = nat_le low b && nat_le b high

-- the value of a digit
abbrev pub decimal_digit : ℕ → Option ℕ
decimal_digit b = if is_between 48 57 b then Some (b - 48) else None

abbrev pub hexadecimal_digit : ℕ → Option ℕ
hexadecimal_digit b =
    if is_between 48 57 b then Some (b - 48)
    else if is_between 97 102 b then Some (b - 97 + 10)
    else if is_between 65 70 b then Some (b - 65 + 10)
    else None

-- the number of digits behind others of this value, the highest first, if all are digits
abbrev pub and_more : (digit : ℕ → Option ℕ) → (base so_far : ℕ) → List ℕ → Option ℕ
and_more digit base n [] = Some n
and_more digit base n (b ∷ bs) = elim (digit b) [ Some d ↦ and_more digit base (base * n + d) bs | None ↦ None ]

-- of one digit at least
abbrev pub digits : (digit : ℕ → Option ℕ) → (base : ℕ) → List ℕ → Option ℕ
digits digit base [] = None
digits digit base (b ∷ bs) = and_more digit base 0 (b ∷ bs)

-- a number without a sign
abbrev pub magnitude : List ℕ → Option ℕ
magnitude [] = None
magnitude (a ∷ []) = digits decimal_digit 10 (a ∷ [])
magnitude (a ∷ b ∷ bs) =
    if nat_eq a 48 && nat_eq b 120 then digits hexadecimal_digit 16 bs else digits decimal_digit 10 (a ∷ b ∷ bs)

abbrev pub positive : Option ℕ → Numeral
positive None = Malformed
positive (Some n) = if nat_lt n (2 ^ 32) then Value n else TooWide

-- modulo 2^32
abbrev pub negative : Option ℕ → Numeral
negative None = Malformed
negative (Some n) = if nat_lt (2 ^ 31) n then TooWide else if nat_eq n 0 then Value 0 else Value (2 ^ 32 - n)

unfoldable pub numeral : List ℕ → Numeral
numeral [] = Malformed
numeral (b ∷ bs) = if nat_eq b 45 then negative (magnitude bs) else positive (magnitude (b ∷ bs))

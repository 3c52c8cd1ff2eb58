-- The tokens of bytes, by one pass from the first byte on.
use Rattle.std.specs.Prelude.{ℕ, zero, suc, ◌+◌, ◌-◌, ◌^◌, ◌≡◌, List, [], ◌∷◌, length, Bool, true, false, nat_eq, if◌then◌else◌}
use Rattle.std.specs.List.{prefix_len, take_while}
use Rattle.base_numerals.specs.declared.Numeral.{Numeral}
use Rattle.base_numerals.specs.declared.Numeral.TheVariants as numeral
use Rattle.base_numerals.specs.Numerals.{numeral}
use Rattle.base_names.specs.Names.{begins_word, continues_word, is_word, is_reserved, is_between}
use Rattle.ir_model.specs.declared.token.Mark.TheVariants as mark
use Rattle.ir_model.specs.Tokens.{Number, Sign}
use Rattle.ir_model.specs.Texts.{is_blank, opens_comment, is_inside_line}
use Rattle.ir_reader.specs.Found.{Found, Is, Bad, End, Placed, found_of}
use Rattle.ir_reader.specs.Words.{word_token}
use Rattle.ir_reader.specs.declared.token.Token.{Token as Code}
use Rattle.ir_reader.specs.declared.token.Token.TheVariants as code

abbrev pub is_digit : ℕ → Bool
is_digit b = is_between 48 57 b

-- what a run of bytes is as a number, where 2^32 stands for each that is too wide
abbrev pub number_from : Numeral → Found
number_from numeral.Malformed = Bad
number_from numeral.TooWide = Is (Number (2 ^ 32))
number_from (numeral.Value n) = Is (Number n)

abbrev pub mark_found : ℕ → Found
mark_found b =
    if nat_eq b 123 then Is (Sign mark.OpenBrace) else
    (if nat_eq b 125 then Is (Sign mark.CloseBrace) else
    (if nat_eq b 40 then Is (Sign mark.Open) else
    (if nat_eq b 41 then Is (Sign mark.Close) else
    (if nat_eq b 91 then Is (Sign mark.OpenSquare) else
    (if nat_eq b 93 then Is (Sign mark.CloseSquare) else
    (if nat_eq b 44 then Is (Sign mark.Comma) else
    (if nat_eq b 58 then Is (Sign mark.Colon) else
    (if nat_eq b 61 then Is (Sign mark.Equal) else
    (if nat_eq b 42 then Is (Sign mark.Star) else Bad)))))))))

-- what is found, and how many bytes it has
pub record Lexeme : Type 0 where
  pub found : Found
  pub len : ℕ

abbrev pub lexeme : Found → ℕ → Lexeme
lexeme f n = record { found = f; len = n }

-- what stands behind `-`
abbrev pub dash : List ℕ → Lexeme
dash [] = lexeme Bad 1
dash (c ∷ cs) =
    if nat_eq c 62 then lexeme (Is (Sign mark.Arrow)) 2
    else lexeme (number_from (numeral (45 ∷ take_while continues_word (c ∷ cs)))) (1 + prefix_len continues_word (c ∷ cs))

abbrev pub first_lexeme : ℕ → List ℕ → Lexeme
first_lexeme b bs =
    if begins_word b then lexeme (Is (word_token (take_while continues_word (b ∷ bs)))) (prefix_len continues_word (b ∷ bs)) else
    (if is_digit b then lexeme (number_from (numeral (take_while continues_word (b ∷ bs)))) (prefix_len continues_word (b ∷ bs)) else
    (if nat_eq b 45 then dash bs else lexeme (mark_found b) 1))

abbrev pub lexeme_of : List ℕ → Lexeme
lexeme_of [] = lexeme End 0
lexeme_of (b ∷ bs) = first_lexeme b bs

-- what is found in a text, of which k more bytes belong to what began before
abbrev pub scan : ℕ → List ℕ → List Placed
scan k [] = record { found = End; left = 0 } ∷ []
scan (suc k) (b ∷ bs) = scan k bs
scan zero (b ∷ bs) =
    if is_blank b then scan 0 bs else
    (if opens_comment b then scan (prefix_len is_inside_line bs) bs else
    record { found = (first_lexeme b bs).found; left = length (b ∷ bs) } ∷ scan ((first_lexeme b bs).len - 1) bs)

unfoldable pub placed : List ℕ → List Placed
placed bs = scan 0 bs

abbrev pub later : Code → List ℕ → List Placed
later code.End rest = []
later (code.Name w) rest = placed rest
later (code.Number n) rest = placed rest
later (code.Key k) rest = placed rest
later (code.Operation op) rest = placed rest
later (code.Comparison op) rest = placed rest
later (code.Mark m) rest = placed rest
later code.Bad rest = placed rest

-- the text begins with this token, and the rest comes after it
abbrev pub BeginsWith : List ℕ → Code → ℕ → List ℕ → Type 0
BeginsWith text token left rest = placed text ≡ record { found = found_of token; left = left } ∷ later token rest

-- a name is a word that is not reserved
abbrev pub IsProper : Code → Type 0
IsProper (code.Name w) = (is_word w.now ≡ true) × (is_reserved w.now ≡ false)
IsProper _ = Unit {0}

-- the token isn't the end
abbrev pub GoesOn : Code → Type 0
GoesOn code.End = ⊥
GoesOn (code.Name w) = Unit {0}
GoesOn (code.Number n) = Unit {0}
GoesOn (code.Key k) = Unit {0}
GoesOn (code.Operation op) = Unit {0}
GoesOn (code.Comparison op) = Unit {0}
GoesOn (code.Mark m) = Unit {0}
GoesOn code.Bad = Unit {0}

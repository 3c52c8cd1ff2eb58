-- Tokens of lines are spelled by the bytes of the lines.
use Rattle.std.proofs.Common.{◌≡◌, ◌<◌, ℕ, ◌^◌, ◌++◌, List, [], ◌∷◌, flat_map, length, Bool, true, false, not, ◌&&◌, IsTrue, refl, ap, sym, subst, append_assoc, arith, nat_le, nat_lt}
use Rattle.std.specs.Str.{IsAscii}
use Rattle.std.specs.List.{list_all}
use Rattle.std.proofs.lemmas.Bool.Decides.{nat_tests}
use Rattle.std.proofs.lemmas.Str.{IsAscii-append}
use Rattle.std.proofs.lemmas.Str.Ascii.{IsAscii-nil, IsAscii-cons}
use Rattle.std.proofs.lemmas.Fmt.{IsAscii-decimal}
use Rattle.base_names.specs.Names.{is_name, is_word, is_reserved, begins_word, continues_word, all_continue}
use Rattle.base_names.specs.declared.TheConstants.{NAME_LIMIT}
use Rattle.base_numerals.specs.declared.Numeral.{Numeral}
use Rattle.ir_model.specs.declared.firmware.BinOp.{BinOp}
use Rattle.ir_model.specs.declared.firmware.BinOp.TheVariants as op
use Rattle.ir_model.specs.declared.firmware.CmpOp.{CmpOp}
use Rattle.ir_model.specs.declared.firmware.CmpOp.TheVariants as cmp
use Rattle.ir_model.specs.declared.token.Keyword.{Keyword}
use Rattle.ir_model.specs.declared.token.Keyword.TheVariants as key
use Rattle.ir_model.specs.declared.token.Mark.{Mark}
use Rattle.ir_model.specs.declared.token.Mark.TheVariants as mark
use Rattle.ir_model.specs.Tokens.{Token, Name, Number, Key, Operation, Comparison, Sign, Marked, token_bytes, keyword_bytes, operation_bytes, comparison_bytes, mark_bytes}
use Rattle.ir_model.specs.Lines.{Line}
use Rattle.ir_model.specs.Canonical.{IsProper, line_bytes}
use Rattle.base_laws.specs.Lists.{Each}
use Rattle.ir_model.specs.Texts.{StandsFor, Spells, IsApart, Leads, here, blank, token, joined, tokens}
use Rattle.ir_model.proofs.NoExcess.{IsNarrow}
use Rattle.std.proofs.lemmas.Bool.{and_parts, not-true}
use Rattle.ir_text_laws.proofs.Digits.{numeral_decimal}

-- ASCII.
all_below : List ℕ → Bool
all_below bs = list_all (λ b. nat_lt b 128) bs

ascii_from : (bs : List ℕ) → all_below bs ≡ true → IsAscii bs
unfolding all_below
ascii_from [] h = IsAscii-nil
ascii_from (b ∷ bs) h =
    let p = and_parts (nat_lt b 128) (all_below bs) h in
    let small : b < 128 = grind (arith, nat_tests, p.0) in
    IsAscii-cons b bs small (ascii_from bs p.1)

keyword_ascii : (k : Keyword) → all_below (keyword_bytes k) ≡ true
unfolding all_below
keyword_ascii key.Struct = refl
keyword_ascii _ = refl

operation_ascii : (o : BinOp) → all_below (operation_bytes o) ≡ true
unfolding all_below
operation_ascii op.Add = refl
operation_ascii _ = refl

comparison_ascii : (o : CmpOp) → all_below (comparison_bytes o) ≡ true
unfolding all_below
comparison_ascii cmp.Eq = refl
comparison_ascii _ = refl

mark_ascii : (m : Mark) → all_below (mark_bytes m) ≡ true
unfolding all_below
mark_ascii mark.OpenBrace = refl
mark_ascii _ = refl

continues_ascii : (b : ℕ) → continues_word b ≡ true → b < 128
continues_ascii b h = grind (arith, nat_tests)

begins_ascii : (b : ℕ) → begins_word b ≡ true → b < 128
begins_ascii b h = grind (arith, nat_tests)

inner_ascii : (bs : List ℕ) → all_continue bs ≡ true → IsAscii bs
inner_ascii [] h = IsAscii-nil
inner_ascii (b ∷ bs) h =
    let p = and_parts (continues_word b) (all_continue bs) h in IsAscii-cons b bs (continues_ascii b p.0) (inner_ascii bs p.1)

word_ascii : (w : List ℕ) → is_word w ≡ true → IsAscii w
word_ascii [] h = IsAscii-nil
word_ascii (b ∷ bs) h =
    let p = and_parts (begins_word b) (all_continue bs) h in IsAscii-cons b bs (begins_ascii b p.0) (inner_ascii bs p.1)

-- what a name is
pub record IsPlainWord (w : List ℕ) : Type 0 where
  pub word : is_word w ≡ true
  pub free : is_reserved w ≡ false

plain_word : (w : List ℕ) → IsTrue (is_name w) → IsPlainWord w
unfolding is_name
plain_word w h =
    let p = and_parts (is_word w) (nat_le (length w) NAME_LIMIT && not (is_reserved w)) h in
    let q = and_parts (nat_le (length w) NAME_LIMIT) (not (is_reserved w)) p.1 in
    record { word = p.0; free = not-true (is_reserved w) q.1 }

-- a token that its canonical spelling spells
pub record IsSpelled (t : Token) : Type 0 where
  pub spells : Spells t (token_bytes t)
  pub ascii : IsAscii (token_bytes t)

pub token_spelled : (t : Token) → IsProper t → IsNarrow t → IsSpelled t
token_spelled (Name w) p n =
    let h = plain_word w p in record { spells = (refl, h.word, h.free); ascii = word_ascii w h.word }
token_spelled (Number m) p n =
    let wide : m < 2 ^ 64 = omega arith in
    record { spells = subst (λ (x : Numeral). StandsFor x m) (sym (numeral_decimal m n)) refl; ascii = IsAscii-decimal m wide }
token_spelled (Key k) p n = record { spells = refl; ascii = ascii_from (keyword_bytes k) (keyword_ascii k) }
token_spelled (Operation o) p n = record { spells = refl; ascii = ascii_from (operation_bytes o) (operation_ascii o) }
token_spelled (Comparison o) p n = record { spells = refl; ascii = ascii_from (comparison_bytes o) (comparison_ascii o) }
token_spelled (Sign m) p n = record { spells = refl; ascii = ascii_from (mark_bytes m) (mark_ascii m) }

-- a blank behind a token ends it
apart : (t : Token) (b : ℕ) (bs : List ℕ) → continues_word b ≡ false → IsApart t (b ∷ bs)
apart (Name w) b bs h = h
apart (Number n) b bs h = h
apart (Key k) b bs h = h
apart (Operation o) b bs h = h
apart (Comparison o) b bs h = h
apart (Sign m) b bs h = tt

-- Lines.
abbrev pub AreSpelled : Line → Type 0
AreSpelled l = Each (λ (m : Marked). IsSpelled m.token) l

line_leads : (m : Marked) (ms : Line) (ts : List Token) (bs rest : List ℕ) → AreSpelled (m ∷ ms) → Leads ts bs rest
    → Leads (tokens (m ∷ ms) ++ ts) (line_bytes (m ∷ ms) ++ bs) rest
line_leads m [] ts bs rest h next =
    subst (λ (z : List ℕ). Leads (m.token ∷ ts) z rest) (sym (append_assoc (token_bytes m.token) (10 ∷ []) bs))
    (token m.token (token_bytes m.token) h.0.spells (apart m.token 10 bs refl) (blank 10 refl next))
line_leads m (n ∷ ms) ts bs rest h next =
    subst (λ (z : List ℕ). Leads (m.token ∷ tokens (n ∷ ms) ++ ts) z rest) (sym (append_assoc (token_bytes m.token) (32 ∷ line_bytes (n ∷ ms)) bs))
    (token m.token (token_bytes m.token) h.0.spells (apart m.token 32 (line_bytes (n ∷ ms) ++ bs) refl)
    (blank 32 refl (line_leads n ms ts bs rest h.1 next)))

line_ascii : (m : Marked) (ms : Line) → AreSpelled (m ∷ ms) → IsAscii (line_bytes (m ∷ ms))
line_ascii m [] h = IsAscii-append (token_bytes m.token) (10 ∷ []) h.0.ascii (IsAscii-cons 10 [] (omega arith) IsAscii-nil)
line_ascii m (n ∷ ms) h =
    IsAscii-append (token_bytes m.token) (32 ∷ line_bytes (n ∷ ms)) h.0.ascii
    (IsAscii-cons 32 (line_bytes (n ∷ ms)) (omega arith) (line_ascii n ms h.1))

tokens_append : (ms ns : Line) → tokens (ms ++ ns) ≡ tokens ms ++ tokens ns
tokens_append [] ns = refl
tokens_append (m ∷ ms) ns = ap (λ z. m.token ∷ z) (tokens_append ms ns)

pub lines_lead : (ls : List Line) → Each AreSpelled ls → Leads (tokens (joined ls)) (flat_map line_bytes ls) []
lines_lead [] h = here []
lines_lead ([] ∷ ls) h = lines_lead ls h.1
lines_lead ((m ∷ ms) ∷ ls) h =
    subst (λ (z : List Token). Leads z (line_bytes (m ∷ ms) ++ flat_map line_bytes ls) []) (sym (tokens_append (m ∷ ms) (joined ls)))
    (line_leads m ms (tokens (joined ls)) (flat_map line_bytes ls) [] h.0 (lines_lead ls h.1))

pub lines_ascii : (ls : List Line) → Each AreSpelled ls → IsAscii (flat_map line_bytes ls)
lines_ascii [] h = IsAscii-nil
lines_ascii ([] ∷ ls) h = lines_ascii ls h.1
lines_ascii ((m ∷ ms) ∷ ls) h = IsAscii-append (line_bytes (m ∷ ms)) (flat_map line_bytes ls) (line_ascii m ms h.0) (lines_ascii ls h.1)

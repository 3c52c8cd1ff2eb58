-- Texts of a firmware: which tokens bytes spell, which bytes are a text of which firmware, and where the first fault of
-- bytes stands.
use Rattle.std.specs.Prelude.{◌≡◌, ℕ, ◌+◌, ◌-◌, ◌^◌, ◌<◌, ◌≤◌, List, [], ◌∷◌, ◌++◌, map, length, take, Bool, true, false, not, ◌||◌, Some, nat_eq, count_by, IsUtf8}
use Rattle.std.specs.List.{suffix_len}
use Rattle.std.specs.Str.{IsValidUpTo}
use Rattle.base_numerals.specs.declared.Numeral.{Numeral}
use Rattle.base_numerals.specs.declared.Numeral.TheVariants.{Malformed, TooWide, Value}
use Rattle.base_numerals.specs.Numerals.{numeral}
use Rattle.base_names.specs.Names.{continues_word, is_word, is_reserved}
use Rattle.ir_model.specs.declared.token.Mark.TheVariants.{Colon}
use Rattle.ir_model.specs.declared.token.Excess.{Excess}
use Rattle.ir_model.specs.declared.token.Pos.{Pos}
use Rattle.ir_model.specs.Plain.{PlainStruct, PlainFunc, PlainFirmware, funcs_of}
use Rattle.ir_model.specs.Tokens.{Token, Name, Number, Key, Operation, Comparison, Sign, Marked, keyword_bytes, operation_bytes, comparison_bytes, mark_bytes}
use Rattle.ir_model.specs.Lines.{Line, lines_of, marked}
use Rattle.ir_model.specs.Canonical.{PassesNothing, IsWithinLimits}
use Rattle.base_laws.specs.Lists.{Each}

-- space, tab, CR or LF
abbrev pub is_blank : ℕ → Bool
is_blank b = nat_eq b 32 || (nat_eq b 9 || (nat_eq b 13 || nat_eq b 10))

-- a comment begins with `#`; an LF ends it and is no part of it, and else the end of the text
abbrev pub opens_comment : ℕ → Bool
opens_comment b = nat_eq b 35

-- neither a blank nor a comment begins there
abbrev pub StartsToken : List ℕ → Type 0
StartsToken [] = Unit {0}
StartsToken (b ∷ bs) = (is_blank b ≡ false) × (opens_comment b ≡ false)

abbrev pub is_inside_line : ℕ → Bool
is_inside_line b = not (nat_eq b 10)

abbrev pub EndsLine : List ℕ → Type 0
EndsLine [] = Unit {0}
EndsLine (b ∷ bs) = is_inside_line b ≡ false

abbrev pub IsInsideLine : List ℕ → Type 0
IsInsideLine bs = Each (λ (b : ℕ). is_inside_line b ≡ true) bs

-- one that is too wide stands for any number of 2^32 or more
abbrev pub StandsFor : Numeral → ℕ → Type 0
StandsFor Malformed n = ⊥
StandsFor TooWide n = 2 ^ 32 ≤ n
StandsFor (Value m) n = n ≡ m

-- the bytes are a spelling of the token
abbrev pub Spells : Token → List ℕ → Type 0
Spells (Name w) bs = (bs ≡ w) × (is_word w ≡ true) × (is_reserved w ≡ false)
Spells (Number n) bs = StandsFor (numeral bs) n
Spells (Key k) bs = bs ≡ keyword_bytes k
Spells (Operation op) bs = bs ≡ operation_bytes op
Spells (Comparison op) bs = bs ≡ comparison_bytes op
Spells (Sign m) bs = bs ≡ mark_bytes m

-- a word or a number does not run on
abbrev pub EndsWord : List ℕ → Type 0
EndsWord [] = Unit {0}
EndsWord (b ∷ bs) = continues_word b ≡ false

abbrev pub IsApart : Token → List ℕ → Type 0
IsApart (Sign m) behind = Unit {0}
IsApart _ behind = EndsWord behind

-- the bytes are spellings of these tokens, with blanks and comments before them, and then the rest
pub data Leads : (tokens : List Token) → (bytes rest : List ℕ) → Type 0 where
  here : (bs : List ℕ) → Leads [] bs bs
  blank : (b : ℕ) {ts : List Token} {bs rest : List ℕ} → is_blank b ≡ true → Leads ts bs rest → Leads ts (b ∷ bs) rest
  comment : (b : ℕ) (inside : List ℕ) {ts : List Token} {bs rest : List ℕ} → opens_comment b ≡ true → IsInsideLine inside → EndsLine bs → Leads ts bs rest → Leads ts (b ∷ inside ++ bs) rest
  token : (t : Token) (spelling : List ℕ) {ts : List Token} {bs rest : List ℕ} → Spells t spelling → IsApart t bs → Leads ts bs rest → Leads (t ∷ ts) (spelling ++ bs) rest

abbrev pub joined : List Line → Line
joined [] = []
joined (l ∷ ls) = l ++ joined ls

abbrev pub tokens : List Marked → List Token
tokens ms = map (λ (m : Marked). m.token) ms

-- the bytes are a text of the firmware
pub record IsText (w : PlainFirmware) (bytes : List ℕ) : Type 0 where
  pub utf8 : IsUtf8 bytes
  pub spelled : Leads (tokens (joined (lines_of w))) bytes []
  pub limits : IsWithinLimits w

-- The first fault.

-- a word of any length
abbrev pub IsFree : Token → Type 0
IsFree (Name w) = (is_word w ≡ true) × (is_reserved w ≡ false)
IsFree _ = Unit {0}

-- a firmware, where no limit counts
pub record IsWhole (w : PlainFirmware) : Type 0 where
  pub words : Each (λ (m : Marked). IsFree m.token) (joined (lines_of w))
  pub structs : Each (λ (s : PlainStruct). 0 < length s.fields) w.structs
  pub functions : Each (λ (f : PlainFunc). 0 < length f.blocks) (funcs_of w)

-- the tokens of some firmware are these and then those
pub record Begins (front behind : List Marked) : Type 0 where
  pub firmware : PlainFirmware
  pub whole : IsWhole firmware
  pub parts : joined (lines_of firmware) ≡ front ++ behind

-- the tokens of no firmware begin with these
abbrev pub NoneBegins : List Token → Type 0
NoneBegins ts = (front behind : List Marked) → tokens front ≡ ts → Begins front behind → ⊥

-- no firmware has these tokens and no more
abbrev pub NoneIs : List Token → Type 0
NoneIs ts = (front : List Marked) → tokens front ≡ ts → Begins front [] → ⊥

-- the tokens of some firmware begin with these, none of them passes a limit, and then come those behind
pub record Reaches (ts : List Token) (behind : List Marked) : Type 0 where
  pub front : List Marked
  pub same : tokens front ≡ ts
  pub limits : Each PassesNothing front
  pub begins : Begins front behind

-- neither a blank nor a comment begins there, and no token does
abbrev pub BeginsNothing : List ℕ → Type 0
BeginsNothing [] = ⊥
BeginsNothing (b ∷ bs) =
    (is_blank b ≡ false) × (opens_comment b ≡ false) × ((t : Token) (spelling behind : List ℕ) → b ∷ bs ≡ spelling ++ behind → Spells t spelling → IsApart t behind → ⊥)

-- behind such tokens no text of a firmware goes on as the rest does, whatever it passes
pub data IsUnexpected (before : List Token) : List ℕ → Type 0 where
  end : NoneIs before → IsUnexpected before []
  nothing : (rest : List ℕ) → BeginsNothing rest → IsUnexpected before rest
  token : (t : Token) (spelling behind : List ℕ) → Spells t spelling → IsApart t behind → NoneBegins (before ++ t ∷ []) → IsUnexpected before (spelling ++ behind)

-- a syntax fault stands where the rest begins
pub record IsSyntaxFault (bytes rest : List ℕ) : Type 0 where
  pub before : List Token
  pub leads : Leads before bytes rest
  pub behind : List Marked
  pub good : Reaches before behind
  pub bad : IsUnexpected before rest

-- a colon stands next, which tells a label from a register
abbrev pub HasColon : Bool → List ℕ → Type 0
HasColon true bs = (rest : List ℕ) × Leads (Sign Colon ∷ []) bs rest
HasColon false bs = (rest : List ℕ) → Leads (Sign Colon ∷ []) bs rest → ⊥

abbrev pub is_colon : Token → Bool
is_colon (Sign Colon) = true
is_colon _ = false

abbrev pub begins_colon : List Token → Bool
begins_colon [] = false
begins_colon (t ∷ ts) = is_colon t

-- what may stand behind a token has a colon first exactly where the bytes behind the token do, or no firmware with these
-- tokens has
pub data Agrees (before : List Token) (at : Token) (behind : List Marked) (after : List ℕ) : Type 0 where
  same : HasColon (begins_colon (tokens behind)) after → Agrees before at behind after
  none : ((front others : List Marked) (m : Marked) → tokens front ≡ before → m.token ≡ at → Begins front (m ∷ others) → HasColon (begins_colon (tokens others)) after → ⊥) → Agrees before at behind after

-- where the rest begins, a token may stand and passes this, behind tokens that pass nothing; each firmware with the same
-- tokens, and with a colon next exactly where the bytes have one, passes this there
pub record IsPassed (bytes rest : List ℕ) (excess : Excess) : Type 0 where
  pub before : List Token
  pub leads : Leads before bytes rest
  pub at : Token
  pub spelling : List ℕ
  pub after : List ℕ
  pub parts : rest ≡ spelling ++ after
  pub spells : Spells at spelling
  pub apart : IsApart at after
  pub behind : List Marked
  pub reaches : Reaches before (marked at (Some excess) ∷ behind)
  pub colon : Agrees before at behind after
  pub each : (front others : List Marked) (m : Marked) → tokens front ≡ before → m.token ≡ at → Begins front (m ∷ others) → HasColon (begins_colon (tokens others)) after → m.excess ≡ Some excess

-- the place where the rest begins: lines and columns count from 1, columns in bytes
pub record IsPlace (bytes rest : List ℕ) (pos : Pos) : Type 0 where
  pub line : pos.line ≡ 1 + count_by (λ b. nat_eq b 10) (take (length bytes - length rest) bytes)
  pub col : pos.col ≡ 1 + suffix_len is_inside_line (take (length bytes - length rest) bytes)

-- the faults of bytes, the first of each
pub record SyntaxAt (bytes : List ℕ) (pos : Pos) : Type 0 where
  pub utf8 : IsUtf8 bytes
  pub rest : List ℕ
  pub place : IsPlace bytes rest pos
  pub fault : IsSyntaxFault bytes rest

pub record PassesAt (bytes : List ℕ) (excess : Excess) (pos : Pos) : Type 0 where
  pub utf8 : IsUtf8 bytes
  pub rest : List ℕ
  pub place : IsPlace bytes rest pos
  pub fault : IsPassed bytes rest excess

pub record NotUtf8At (bytes : List ℕ) (at : ℕ) : Type 0 where
  pub none : ¬ (IsUtf8 bytes)
  pub first : IsValidUpTo bytes at

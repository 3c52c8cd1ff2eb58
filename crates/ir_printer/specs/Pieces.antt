-- Tokens of the canonical text. A line has its first token, the others each behind a space, and its end.
use Rattle.std.specs.Prelude.{ℕ, List, [], ◌∷◌, ◌==◌, if◌then◌else◌}
use Rattle.ir_model.specs.declared.token.Mark.TheVariants.{Comma}
use Rattle.ir_model.specs.Tokens.{Token, Sign, token_bytes}
use Rattle.ir_grammar.specs.Spelling.{Glyphs}

-- the first token of a line
unfoldable pub first : Token → List ℕ
first t = token_bytes t

-- a token behind another
unfoldable pub next : Token → List ℕ
next t = 32 ∷ token_bytes t

abbrev pub line_end : List ℕ
line_end = 10 ∷ []

abbrev pub as_bytes : Glyphs ℕ
as_bytes = record { first = first; next = next; line_end = line_end; text_end = [] }

-- what stands before an element of a list
unfoldable pub separator : (before : ℕ) → List ℕ
separator k = if k == 0 then [] else next (Sign Comma)

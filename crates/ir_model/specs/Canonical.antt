-- The canonical text of a firmware, and the limits that a text keeps.
use Rattle.std.specs.Prelude.{◌≡◌, ℕ, ◌<◌, List, [], ◌∷◌, ◌++◌, flat_map, length, None, IsTrue}
use Rattle.base_laws.specs.Lists.{Each}
use Rattle.ir_model.specs.Plain.{PlainStruct, PlainFunc, PlainFirmware, funcs_of}
use Rattle.ir_model.specs.Tokens.{Token, Name, Marked, token_bytes}
use Rattle.ir_model.specs.Lines.{Line, lines_of}
use Rattle.base_names.specs.Names.{is_name}

-- the tokens of a line with one space between them, and its end
abbrev pub line_bytes : Line → List ℕ
line_bytes [] = []
line_bytes (m ∷ []) = token_bytes m.token ++ 10 ∷ []
line_bytes (m ∷ n ∷ ms) = token_bytes m.token ++ 32 ∷ line_bytes (n ∷ ms)

unfoldable pub canonical : PlainFirmware → List ℕ
canonical w = flat_map line_bytes (lines_of w)

abbrev pub PassesNothing : Marked → Type 0
PassesNothing m = m.excess ≡ None

-- the word of a name
abbrev pub IsProper : Token → Type 0
IsProper (Name w) = IsTrue (is_name w)
IsProper _ = Unit {0}

-- a firmware within the limits: its names are names, no token of its text passes a limit, every struct has a field, and
-- every function a block
pub record IsWithinLimits (w : PlainFirmware) : Type 0 where
  pub words : Each (Each (λ (m : Marked). IsProper m.token)) (lines_of w)
  pub tokens : Each (Each PassesNothing) (lines_of w)
  pub structs : Each (λ (s : PlainStruct). 0 < length s.fields) w.structs
  pub functions : Each (λ (f : PlainFunc). 0 < length f.blocks) (funcs_of w)

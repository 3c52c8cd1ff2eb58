-- What stands at a place of a text.
use Rattle.std.specs.Prelude.{ℕ, List, [], ◌∷◌, map, Bool, false}
use Rattle.ir_model.specs.Tokens as model
use Rattle.ir_model.specs.Texts.{is_colon}
use Rattle.ir_reader.specs.declared.token.Token.{Token}
use Rattle.ir_reader.specs.declared.token.Token.TheVariants as code

-- a token, or what stands where none begins
pub data Found : Type 0 where
  Is : (token : model.Token) → Found
  Bad : Found
  End : Found

-- what was found, and how many bytes of the text begin with it
pub record Placed : Type 0 where
  pub found : Found
  pub left : ℕ

abbrev pub found_of : Token → Found
found_of (code.Name w) = Is (model.Name w.now)
found_of (code.Number n) = Is (model.Number n)
found_of (code.Key k) = Is (model.Key k)
found_of (code.Operation op) = Is (model.Operation op)
found_of (code.Comparison op) = Is (model.Comparison op)
found_of (code.Mark m) = Is (model.Sign m)
found_of code.Bad = Bad
found_of code.End = End

abbrev pub finds : List Placed → List Found
finds ps = map (λ (p : Placed). p.found) ps

abbrev pub is_colon_found : Found → Bool
is_colon_found (Is t) = is_colon t
is_colon_found _ = false

-- whether a colon is the first
abbrev pub colon_first : List Placed → Bool
colon_first [] = false
colon_first (p ∷ ps) = is_colon_found p.found

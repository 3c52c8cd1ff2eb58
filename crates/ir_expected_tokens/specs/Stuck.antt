-- Where a text is no further one of the grammar.
use Rattle.std.specs.Prelude.{ℕ, List, [], ◌∷◌, Option, Some, None, Bool, true, false}
use Rattle.ir_model.specs.Tokens as model
use Rattle.ir_reader.specs.Found.{Found, Is, Bad, End, Placed, colon_first}
use Rattle.ir_reader.specs.Scan.{placed}
use Rattle.ir_expected_tokens.specs.declared.grammar.Class.{Class}
use Rattle.ir_expected_tokens.specs.declared.grammar.Class.TheVariants as class
use Rattle.ir_expected_tokens.specs.declared.grammar.Symbol.{Symbol}
use Rattle.ir_expected_tokens.specs.declared.grammar.TheConstants.{START}
use Rattle.ir_expected_tokens.specs.Expected.{taken}

abbrev pub token_class : model.Token → Class
token_class (model.Name w) = class.Name
token_class (model.Number n) = class.Number
token_class (model.Key k) = class.Key k
token_class (model.Operation op) = class.Operation
token_class (model.Comparison op) = class.Comparison
token_class (model.Sign m) = class.Mark m

-- the class of what is found, where a token or the end is
abbrev pub class_of : Found → Option Class
class_of (Is t) = Some (token_class t)
class_of Bad = None
class_of End = Some class.End

abbrev pub is_end : Found → Bool
is_end End = true
is_end _ = false

-- what is expected behind what is found, where it may stand there
abbrev pub after : List Symbol → Found → (colon : Bool) → Option (List Symbol)
after ss f colon = elim (class_of f) [ Some c ↦ taken ss c colon | None ↦ None ]

-- what is expected, and what is found there and cannot stand there, where that is the first
abbrev pub stuck : List Symbol → List Placed → Option (List Symbol × Placed)
stuck ss [] = None
stuck ss (p ∷ ps) = elim (after ss p.found (colon_first ps)) [ Some more ↦ stuck more ps | None ↦ Some (ss, p) ]

-- the same of a text
abbrev pub stuck_in : (text : List ℕ) → Option (List Symbol × Placed)
stuck_in text = stuck START.now (placed text)

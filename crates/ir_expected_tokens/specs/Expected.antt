-- What may stand where symbols of the grammar are expected, and what is expected behind it.
use Rattle.std.specs.Prelude.{List, [], ◌∷◌, ◌++◌, map, Option, Some, None, Bool, false, not, if◌then◌else◌}
use Rattle.ir_expected_tokens.specs.declared.grammar.Class.{Class}
use Rattle.ir_expected_tokens.specs.declared.grammar.Class.TheVariants as class
use Rattle.ir_expected_tokens.specs.declared.grammar.Part.TheVariants as part
use Rattle.ir_expected_tokens.specs.declared.grammar.Symbol.{Symbol}
use Rattle.ir_expected_tokens.specs.declared.grammar.Symbol.TheVariants as symbol
use Rattle.ir_expected_tokens.specs.Grammar.{Row, rows, is_class}
use Rattle.ir_expected_tokens.specs.Grammar as grammar

abbrev pub may_be_missing : Symbol → Bool
may_be_missing (symbol.Token c) = false
may_be_missing (symbol.Part p) = grammar.may_be_missing p

-- the rows of a symbol, of which a token has one
abbrev pub symbol_rows : Symbol → List Row
symbol_rows (symbol.Token c) = (c, []) ∷ []
symbol_rows (symbol.Part p) = rows p

-- what is expected behind a token of this class, by the first row that it begins
abbrev pub behind_row : List Row → Class → Option (List Symbol)
behind_row [] c = None
behind_row (r ∷ rs) c = if is_class r.0 c then Some r.1 else behind_row rs c

-- behind `ret` a name that no colon follows is the result; one that a colon follows is the label of the next block
abbrev pub is_result : Symbol → Class → (colon : Bool) → Bool
is_result (symbol.Part part.Result) class.Name colon = not colon
is_result _ _ _ = false

-- what is expected behind such a token that stands for the symbol, where it can
abbrev pub behind : Symbol → Class → (colon : Bool) → Option (List Symbol)
behind s c colon = if is_result s c colon then Some [] else behind_row (symbol_rows s) c

-- what is expected behind such a token where these are expected in order: it stands for the first, or that is missing
abbrev pub taken : List Symbol → Class → (colon : Bool) → Option (List Symbol)
taken [] c colon = None
taken (s ∷ ss) c colon =
    elim (behind s c colon) [
      | Some more ↦ Some (more ++ ss)
      | None ↦ (if may_be_missing s then taken ss c colon else None)
    ]

abbrev pub classes : List Row → List Class
classes rows = map (λ (r : Row). r.0) rows

-- which tokens may stand where these are expected, in the order of the grammar
abbrev pub expected_of : List Symbol → List Class
expected_of [] = []
expected_of (s ∷ ss) = classes (symbol_rows s) ++ (if may_be_missing s then expected_of ss else [])

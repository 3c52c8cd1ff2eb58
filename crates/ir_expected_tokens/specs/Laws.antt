-- Beyond the program's claim: only laws, proofs and functions inside the tool cite this file.
-- Laws of the places where texts are no further ones of the grammar.
use Rattle.std.specs.Prelude.{◌≡◌, ℕ, List, [], ◌∷◌, Option, Some, Bool, true, false}
use Rattle.std.specs.List.{list_any}
use Rattle.ir_model.specs.Plain.{PlainFirmware}
use Rattle.ir_model.specs.Texts.{IsText}
use Rattle.ir_model.specs.Tokens.{Token}
use Rattle.ir_reader.specs.declared.error.Fault.{Fault}
use Rattle.ir_reader.specs.declared.error.FaultKind.TheVariants as kind
use Rattle.ir_reader.specs.Found.{Placed}
use Rattle.ir_reader.specs.Machine as machine
use Rattle.ir_reader.specs.Machine.{Progress, To, Stuck, step, fault, may_end, Structs}
use Rattle.ir_reader.specs.Scan.{placed}
use Rattle.ir_expected_tokens.specs.declared.grammar.Class.{Class}
use Rattle.ir_expected_tokens.specs.declared.grammar.Class.TheVariants as class
use Rattle.ir_expected_tokens.specs.declared.grammar.Symbol.{Symbol}
use Rattle.ir_expected_tokens.specs.declared.grammar.Symbol.TheVariants as symbol
use Rattle.ir_expected_tokens.specs.Grammar.{is_class}
use Rattle.ir_expected_tokens.specs.Expected.{expected_of}
use Rattle.ir_expected_tokens.specs.Stuck.{token_class, stuck_in}
use Rattle.ir_expected_tokens.specs.SyntaxLines.{syntax_lines}
use Rattle.ir_expected_tokens.specs.Uncounted.{all_uncounted}

-- the end of the text
abbrev pub is_end_symbol : Symbol → Bool
is_end_symbol (symbol.Token class.End) = true
is_end_symbol _ = false

-- it is expected last
abbrev pub closed : List Symbol → Bool
closed [] = false
closed (s ∷ []) = is_end_symbol s
closed (s ∷ t ∷ ss) = closed (t ∷ ss)

-- a token cannot stand where so many bytes are left, and what is expected there is that of a stack of the machine
pub record IsStuckAt (found : Option (List Symbol × Placed)) (left : ℕ) : Type 0 where
  pub stack : List machine.Symbol
  pub last : closed (all_uncounted stack) ≡ true
  pub at : Placed
  pub stuck : found ≡ Some (all_uncounted stack, at)
  pub place : at.left ≡ left

-- where a text has a syntax fault, the token that stands there is the one at which it is no further one of the grammar
abbrev pub FaultsAreStuck : Type 0
FaultsAreStuck = (text : List ℕ) (f : Fault) → fault (Structs 0 ∷ []) (placed text) ≡ Some f → f.kind ≡ kind.Syntax → IsStuckAt (stuck_in text) f.left

abbrev pub is_among : List Class → Class → Bool
is_among classes c = list_any (λ d. is_class d c) classes

-- whether a token may stand somewhere, by what the machine makes of it
abbrev pub goes : Progress → Bool
goes (To x stack) = true
goes Stuck = false

-- the classes that are expected are exactly those of the tokens that the machine takes, whether a colon follows or not
abbrev pub ExpectedMayStand : Type 0
ExpectedMayStand = (stack : List machine.Symbol) (t : Token) (colon : Bool) → is_among (expected_of (all_uncounted stack)) (token_class t) ≡ goes (step stack t colon)

-- and the end is expected exactly where the machine lets a text end
abbrev pub EndsMayStand : Type 0
EndsMayStand = (stack : List machine.Symbol) → closed (all_uncounted stack) ≡ true → is_among (expected_of (all_uncounted stack)) class.End ≡ may_end stack

-- nothing is told of a text of a firmware
abbrev pub TextsHaveNoLines : Type 0
TextsHaveNoLines = (w : PlainFirmware) (text : List ℕ) → IsText w text → syntax_lines text ≡ []

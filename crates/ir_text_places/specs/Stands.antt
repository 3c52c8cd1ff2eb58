-- Where a token of a firmware's text stands.
use Rattle.std.specs.Prelude.{ℕ, List, [], take, drop}
use Rattle.ir_model.specs.declared.token.Pos.{Pos}
use Rattle.ir_model.specs.Plain.{PlainFirmware}
use Rattle.ir_model.specs.Tokens.{Token}
use Rattle.ir_model.specs.Lines.{lines_of}
use Rattle.ir_model.specs.Texts.{Leads, IsPlace, StartsToken, joined, tokens}

abbrev pub tokens_of : PlainFirmware → List Token
tokens_of w = tokens (joined (lines_of w))

-- the place in the bytes where the token begins before which so many of the firmware's tokens stand, or the end of the bytes where there are no
-- more tokens
pub record Stands (w : PlainFirmware) (bytes : List ℕ) (k : ℕ) (pos : Pos) : Type 0 where
  pub rest : List ℕ
  pub before : Leads (take k (tokens_of w)) bytes rest
  pub behind : Leads (drop k (tokens_of w)) rest []
  pub begins : StartsToken rest
  pub place : IsPlace bytes rest pos

-- Beyond the program's claim: only laws, proofs and functions inside the tool cite this file.
-- Statements of laws: a text describes one board at most, and is not refused where it describes one.
use Rattle.std.specs.Prelude.{◌≡◌, ℕ, List}
use Rattle.plan_model.specs.declared.plan.Board.{Board}
use Rattle.plan_board.specs.declared.fault.BoardFault.{BoardFault}
use Rattle.plan_board.specs.declared.fault.BoardFault.TheVariants.{NoMemory}
use Rattle.plan_board.specs.Reading.{IsRead, IsFault}

-- a text describes one board at most
abbrev pub BoardsAreOne : Type 0
BoardsAreOne = (text : List ℕ) (b c : Board) → IsRead text b → IsRead text c → b ≡ c

-- one that describes a board is refused for want of memory alone
abbrev pub BoardsAreNotRefused : Type 0
BoardsAreNotRefused = (text : List ℕ) (b : Board) (e : BoardFault) → IsRead text b → IsFault text e → e ≡ NoMemory

-- What a refusal of a board says of the bytes.
use Rattle.std.proofs.Common.{ℕ, List}
use Rattle.plan_board.specs.declared.fault.BoardFault.{BoardFault}
use Rattle.plan_board.specs.Reading.{IsFault}
use Rattle.aces_reports.specs.declared.failure.Failure.{Failure}
use Rattle.aces_reports.specs.declared.failure.Fault.TheVariants.{Board}
use Rattle.aces_files.specs.Contents.{IsNoBoard, IsContentFault}
use Rattle.aces_files.specs.Loads.{IsContentFailure}
use Rattle.aces_files.proofs.Ends.{content_also}

-- bytes that fail a test describe no board
pub board_refused : (text name : List ℕ) (first : BoardFault) (e : Failure) → IsFault text first → IsContentFailure (IsContentFault (Board first)) name e
    → IsContentFailure (IsNoBoard text) name e
board_refused text name first e h =
    content_also (IsContentFault (Board first)) (IsNoBoard text) (λ f q. record { first = first; found = h; named = q }) name e

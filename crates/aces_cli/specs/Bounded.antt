-- What `stack` and `compile` say together of the same files: where both answer with status 0, the image refines the firmware with no premise on
-- the stack.
use Rattle.std.specs.Prelude.{◌≡◌, ℕ, List, Some, IsTrue}
use Rattle.machine_devices.specs.declared.image.Image.{Image}
use Rattle.machine_image.specs.Text.{IsText}
use Rattle.ir_model.specs.Plain.{PlainFirmware}
use Rattle.plan_model.specs.declared.plan.Board.{Board}
use Rattle.plan_board.specs.Reading as boards
use Rattle.plan_model.specs.declared.policy.Policy.{Policy}
use Rattle.aces_words.specs.Requests.{file_origin, firmware_origin, Compile, Asks}
use Rattle.plan_compartments.specs.Divisions.{division}
use Rattle.monitor_model.specs.Layout.{initial_word_count}
use Rattle.image_promises.specs.Planned.{planned_tables}
use Rattle.aces_compiler.specs.ByPolicy.{IsImageBy}
use Rattle.aces_stack.specs.Whole.{RefinesWhole}
use Rattle.aces_files.specs.Known.{Held, HoldsWithin, Exceeds}
use Rattle.aces_files.specs.Outcomes.{Outcome}
use Rattle.aces_firmwares.specs.Firmwares.{IsFirmware}
use Rattle.aces_plans.specs.Answers.{AnswerToStack}
use Rattle.aces_cli.specs.Endings.{IsAnswered}
use Rattle.aces_cli.specs.Seen.{Seen}

-- a name holds the text of an image that the firmware in a file gets for the board in another by the policy; and the image refines the firmware
-- with no premise but that the source meets no fault
pub record IsFollowed (policy : Policy) (old : Held) (firmware board : List ℕ) (new : Held) (image : List ℕ) : Type 0 where
  pub bytes : List ℕ
  pub text : List ℕ
  pub has_bytes : HoldsWithin old (firmware_origin firmware) bytes
  pub has_text : HoldsWithin old (file_origin board) text
  pub w : PlainFirmware
  pub b : Board
  pub is_firmware : IsFirmware w bytes
  pub is_board : boards.IsRead text b
  pub i : Image
  pub out : List ℕ
  pub is_text : IsText i out
  pub held : new image ≡ Some out
  pub is_image : IsImageBy policy w b i
  pub refines : RefinesWhole w (division policy w is_image.needs) (initial_word_count (planned_tables w is_image.needs is_image.image.graph b)) i

-- `stack` has an answer with status 0 to these files
pub record StackIsEnough (held : Held) (firmware board : List ℕ) (policy : Policy) : Type 0 where
  pub outcome : Outcome
  pub answer : AnswerToStack firmware board policy (HoldsWithin held) (Exceeds held) outcome
  pub ended : outcome.status ≡ 0

-- where the words ask to compile, and what the files held has an answer of `stack` with status 0, such an image is held
abbrev pub FollowsBounded : (words : List (List ℕ)) → (old new : Held) → Type 0
FollowsBounded words old new =
    (firmware board : List ℕ) (policy : Policy) (image : List ℕ) → Asks words (Compile firmware board policy image) →
    StackIsEnough old firmware board policy → IsFollowed policy old firmware board new image

-- a call that did what its words ask, with status 0, has this: the statement of a law
abbrev pub BoundedCallsAreFollowed : Type 0
BoundedCallsAreFollowed =
    (words : List (List ℕ)) (s : Seen) → IsTrue s.old.told →
    IsAnswered (HoldsWithin s.old.held) (Exceeds s.old.held) words s 0 → FollowsBounded words s.old.held s.new.held

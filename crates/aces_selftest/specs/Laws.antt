-- Beyond the program's claim: only laws, proofs and functions inside the tool cite this file.
-- Self-tests that are the same: the statement of a law.
use Rattle.std.specs.Prelude.{◌≡◌, ◌≢◌, ℕ, ◌≤◌, None}
use Rattle.machine_devices.specs.declared.image.Image.{Image}
use Rattle.plan_model.specs.declared.policy.Policy.TheVariants.{Filename}
use Rattle.ir_model.specs.Resolve.{resolve}
use Rattle.ir_model.specs.Runs.{source_after}
use Rattle.ir_generator.specs.Made.{made}
use Rattle.ir_generator.specs.Taped.{taped}
use Rattle.refine_model.specs.Refines.{IsGood}
use Rattle.plan_firmwares.specs.Plannable.{IsPlannable}
use Rattle.ir_output.specs.SourceRuns.{ending_of}
use Rattle.aces_files.specs.Outcomes.{Outcome}
use Rattle.aces_selftest.specs.TestBoard.{test_board}
use Rattle.aces_selftest.specs.Answers.{source_limit, IsTestImage, groups_of, SelftestAnswer}

-- the source's run ends within its steps, meets no fault, and stays within the stack of the board
pub record EndsWell (seed size : ℕ) (i : Image) (by : IsTestImage seed size i) : Type 0 where
  pub steps : ℕ
  pub few : steps ≤ source_limit
  pub good : IsGood (resolve (made seed size)) by.needs (groups_of seed size i by) test_board.stack (taped seed size) steps
  pub ended : ending_of (source_after (resolve (made seed size)) (groups_of seed size i by).of (taped seed size) steps) ≢ None

-- where it does, and the firmware has a plan, so that an image is made: the answer is `same`, which alone has status 0
abbrev pub GoodSelftestsAreSame : Type 0
GoodSelftestsAreSame =
    (seed size : ℕ) → IsPlannable Filename (made seed size) test_board → ((i : Image) (by : IsTestImage seed size i) → EndsWell seed size i by)
    → (o : Outcome) → SelftestAnswer seed size o → o.status ≡ 0

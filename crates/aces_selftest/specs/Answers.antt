-- What a self-test answers where memory does not run out.
use Rattle.std.specs.Prelude.{ℕ, ◌+◌, ◌*◌, List, length, None, Bool}
use Rattle.std.specs.Bool.{Decides}
use Rattle.machine_devices.specs.declared.image.Image.{Image}
use Rattle.machine_model.specs.Step.{step, event}
use Rattle.base_words.specs.Runs.{events}
use Rattle.machine_lines.specs.Lines as machine_lines
use Rattle.plan_layout.specs.declared.refusal.Lack.{Lack}
use Rattle.plan_model.specs.declared.policy.Policy.TheVariants.{Filename}
use Rattle.aces_words.specs.Requests.{Origin}
use Rattle.ir_model.specs.Plain.{PlainFirmware, funcs_of}
use Rattle.ir_model.specs.Resolve.{resolve}
use Rattle.ir_model.specs.State.{start}
use Rattle.ir_model.specs.Step.{source_step}
use Rattle.ir_model.specs.Runs.{source_events}
use Rattle.ir_generator.specs.Made.{made}
use Rattle.ir_generator.specs.Taped.{taped}
use Rattle.plan_model.specs.declared.groups.Groups.{Groups}
use Rattle.plan_model.specs.declared.limits.LimitKind.{LimitKind}
use Rattle.plan_model.specs.Crossing.{crossing_sites}
use Rattle.plan.specs.declared.refusal.PlanningRefusal.TheVariants as planning
use Rattle.monitor_model.specs.Layout.{initial_word_count}
use Rattle.refine_model.specs.Refines.{step_limit, word_limit}
use Rattle.plan_compartments.specs.Divisions.{division}
use Rattle.image_promises.specs.Planned.{planned_tables}
use Rattle.plan_firmwares.specs.Unplanned.{IsRefusedBy}
use Rattle.aces_compiler.specs.ByPolicy.{IsImageBy}
use Rattle.ir_output.specs.SourceRuns.{ending_of, source_end, end_line}
use Rattle.machine_output.specs.Runs.{end_of}
use Rattle.aces_compiler.specs.PrintedRuns.{begin}
use Rattle.aces_selftest.specs.TakesSteps.{TakesSteps, machine_ending_of}
use Rattle.aces_files.specs.Outcomes.{Outcome, done, past_limit, no_room}
use Rattle.aces_selftest.specs.TestBoard.{test_board}
use Rattle.aces_selftest.specs.Lines.{Ran, AreAlike, firmware_line, division_line, verdict_status, test_lines}

-- the source is run for so many steps at most
abbrev pub source_limit : ℕ
source_limit = 100000

-- the image that is compiled of the generated firmware for the board of self-tests; each file of the firmware is a compartment
abbrev pub IsTestImage : (seed size : ℕ) → Image → Type 0
IsTestImage seed size i = IsImageBy Filename (made seed size) test_board i

module _ (seed size : ℕ) (i : Image) (by : IsTestImage seed size i) where
  abbrev pub groups_of : Groups
  groups_of = division Filename (made seed size) by.needs

  -- how many words start-up copies
  abbrev pub words_of : ℕ
  words_of = initial_word_count (planned_tables (made seed size) by.needs by.image.graph test_board)

  -- the source takes so many steps on the generated input, and the image so many, of as many as the refinement gives it
  pub record TakeSteps (n m : ℕ) : Type 0 where
    pub source : TakesSteps ending_of (source_step (resolve (made seed size)) groups_of.of) source_limit (start (resolve (made seed size)) (taped seed size)) n
    pub image : TakesSteps machine_ending_of (step i) (step_limit * (n + 1) + word_limit * words_of) (begin i (taped seed size)) m

  abbrev pub source_ran : (steps : ℕ) → Ran
  source_ran n =
      record {
        steps = n;
        events = source_events (resolve (made seed size)) groups_of.of (taped seed size) n;
        end = end_line (source_end (made seed size) groups_of.of (taped seed size) n);
      }

  abbrev pub image_ran : (steps : ℕ) → Ran
  image_ran m =
      record {
        steps = m;
        events = events (step i) (event i) m (begin i (taped seed size));
        end = machine_lines.end_line (end_of i m (begin i (taped seed size)));
      }

  abbrev pub lines_of : (n m : ℕ) → (alike : Bool) → List ℕ
  lines_of n m alike =
      let w : PlainFirmware = made seed size in
      test_lines
      (firmware_line (length (funcs_of w)) (length w.globals) (length w.periphs))
      (division_line groups_of.count (length (crossing_sites by.needs groups_of)))
      (source_ran n) (image_ran m) alike

-- it is refused as `compile` refuses it; else both runs are told, and compared
pub data SelftestAnswer (seed size : ℕ) : Outcome → Type 0 where
  too_many : (which : LimitKind) (count : ℕ) → IsRefusedBy Filename (made seed size) test_board (planning.Limit which count) → SelftestAnswer seed size (past_limit which count)
  lacks_room : (lack : Lack) → IsRefusedBy Filename (made seed size) test_board (planning.Room lack) → SelftestAnswer seed size (no_room lack)
  tested : (i : Image) (by : IsTestImage seed size i) (n m : ℕ) (alike : Bool) → TakeSteps seed size i by n m
      → Decides alike (AreAlike (source_ran seed size i by n) (image_ran seed size i by m))
      → SelftestAnswer seed size (done (verdict_status alike) (lines_of seed size i by n m alike) None)

-- the answer to the request, whatever files hold
abbrev pub AnswerToSelftest : (seed size : ℕ) → (Has : Origin → List ℕ → Type 0) (Exceeds : Origin → Type 0) → Outcome → Type 0
AnswerToSelftest seed size Has Exceeds = SelftestAnswer seed size

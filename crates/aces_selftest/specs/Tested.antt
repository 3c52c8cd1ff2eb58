-- Beyond the program's claim: only laws, proofs and functions inside the tool cite this file.
-- Self-tests as they are made, part by part.
use Rattle.std.specs.Prelude.{◌≡◌, ℕ, List, length, Bool, Ok, unwrap_or}
use Rattle.std.specs.Bool.{Decides}
use Rattle.machine_devices.specs.declared.image.Image.{Image}
use Rattle.machine_model.specs.declared.state.End.TheVariants.{Limit}
use Rattle.machine_lines.specs.Lines as machine_lines
use Rattle.plan_model.specs.declared.policy.Policy.TheVariants.{Filename}
use Rattle.aces_reports.specs.Ends.{status_of}
use Rattle.ir_model.specs.Plain.{PlainFirmware, funcs_of}
use Rattle.ir_model.specs.Resolve.{resolve}
use Rattle.ir_model.specs.State.{start}
use Rattle.ir_generator.specs.Made.{made}
use Rattle.plan_model.specs.Crossing.{crossing_sites}
use Rattle.plan_compartments.specs.Analyses.{AreCompartmentsBy}
use Rattle.ir_output.specs.SourceRuns.{end_line}
use Rattle.ir_output.specs.Ends.{seen_end}
use Rattle.aces_selftest.specs.declared.sources.SourceCount.{SourceCount}
use Rattle.aces_selftest.specs.declared.machines.MachineCount.{MachineCount}
use Rattle.aces_selftest.specs.Counts.{IsSourceCount}
use Rattle.aces_selftest.specs.declared.runs.SourceTest.{SourceTest}
use Rattle.aces_selftest.specs.declared.testing.Tested.{Tested}
use Rattle.aces_files.specs.declared.telling.CommandOutput.{CommandOutput}
use Rattle.aces_selftest.specs.Lines.{Ran, AreAlike, firmware_line, division_line, test_lines, verdict_status}
use Rattle.aces_selftest.specs.Answers.{source_limit, IsTestImage, groups_of, TakeSteps, source_ran, image_ran}

-- a run of a source in the compartments of its files
pub record IsSourceTest (w : PlainFirmware) (queues : List (List ℕ)) (t : SourceTest) : Type 0 where
  pub functions : t.functions ≡ length (funcs_of w)
  pub compartments : List ℕ
  pub are : AreCompartmentsBy Filename w compartments
  pub count : IsSourceCount (resolve w) compartments source_limit (start (resolve w) queues) t.count

-- runs that were counted, as they are told
abbrev pub source_seen : SourceCount → Ran
source_seen c = record { steps = c.steps; events = c.events.items; end = end_line (seen_end c.end) }

-- a machine that goes on has come to the limit
abbrev pub image_seen : MachineCount → Ran
image_seen c = record { steps = c.steps; events = c.events.items; end = machine_lines.end_line (unwrap_or c.end Limit) }

-- the numbers are those of the firmware and of its image, and both were run
pub record IsTested (seed size : ℕ) (i : Image) (t : Tested) : Type 0 where
  pub by : IsTestImage seed size i
  pub functions : t.functions ≡ length (funcs_of (made seed size))
  pub compartments : t.compartments ≡ (groups_of seed size i by).count
  pub sites : t.sites ≡ length (crossing_sites by.needs (groups_of seed size i by))
  pub take : TakeSteps seed size i by t.source.steps t.image.steps
  pub source : source_seen t.source ≡ source_ran seed size i by t.source.steps
  pub image : image_seen t.image ≡ image_ran seed size i by t.image.steps

-- what is told of a self-test, of a firmware with so many globals and peripherals
pub record IsTold (globals periphs : ℕ) (t : Tested) (told : CommandOutput) : Type 0 where
  pub alike : Bool
  pub decides : Decides alike (AreAlike (source_seen t.source) (image_seen t.image))
  pub lines : told.lines.items
      ≡ test_lines (firmware_line t.functions globals periphs) (division_line t.compartments t.sites) (source_seen t.source) (image_seen t.image) alike
  pub status : status_of (Ok told.done) ≡ verdict_status alike

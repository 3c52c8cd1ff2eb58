-- Beyond the program's claim: only laws, proofs and functions inside the tool cite this file.
-- Runs as they are counted: their steps, their events, and how they ended.
use Rattle.std.specs.Prelude.{◌≡◌, ℕ, List}
use Rattle.base_words.specs.Runs.{run, events}
use Rattle.machine_devices.specs.declared.image.Image.{Image}
use Rattle.machine_model.specs.State.{State}
use Rattle.machine_model.specs.Step.{step, event}
use Rattle.ir_model.specs.Resolved.{Program}
use Rattle.ir_model.specs.State.{SourceState}
use Rattle.ir_model.specs.Step.{source_step, source_event}
use Rattle.ir_output.specs.SourceRuns.{ending_of}
use Rattle.ir_output.specs.Ends.{seen_end}
use Rattle.aces_selftest.specs.declared.sources.SourceCount.{SourceCount}
use Rattle.aces_selftest.specs.declared.machines.MachineCount.{MachineCount}
use Rattle.aces_selftest.specs.TakesSteps.{TakesSteps, machine_ending_of}

-- the count of a run of a source from a state on, in these compartments
pub record IsSourceCount (p : Program) (compartments : List ℕ) (limit : ℕ) (s : SourceState) (c : SourceCount) : Type 0 where
  pub takes : TakesSteps ending_of (source_step p compartments) limit s c.steps
  pub events : c.events.items ≡ events (source_step p compartments) (source_event p compartments) c.steps s
  pub end : seen_end c.end ≡ ending_of (run (source_step p compartments) c.steps s)

-- the count of a run of a machine from a state on
pub record IsMachineCount (i : Image) (limit : ℕ) (s : State) (c : MachineCount) : Type 0 where
  pub takes : TakesSteps machine_ending_of (step i) limit s c.steps
  pub events : c.events.items ≡ events (step i) (event i) c.steps s
  pub end : c.end ≡ (run (step i) c.steps s).ending

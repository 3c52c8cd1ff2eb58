-- Beyond the program's claim: only laws, proofs and functions inside the tool cite this file.
-- The lines of the events of a run, as they are printed.
use Rattle.std.specs.Prelude.{◌≡◌, ℕ, ◌++◌, IsTrue}
use Rattle.base_outside.specs.Counts.{Rose}
use Rattle.base_outside.specs.Contents.{AddsPrefix}
use Rattle.base_outside.specs.Sinks.{SinkState}
use Rattle.machine_devices.specs.declared.image.Image.{Image}
use Rattle.machine_model.specs.declared.state.End.{End}
use Rattle.machine_model.specs.State.{State}
use Rattle.machine_output.specs.Runs.{end_of, event_lines}

-- the run had this end, and all lines were printed
pub record IsWhole (i : Image) (steps : ℕ) (s : State) (old new : SinkState) (e : End) : Type 0 where
  pub end : e ≡ end_of i steps s
  pub faultless : new.faults ≡ old.faults
  pub lines : IsTrue old.told → new.written ≡ old.written ++ event_lines i steps s

-- a fault of the sink rose, and a part of the lines was printed
pub record IsPart (i : Image) (steps : ℕ) (s : State) (old new : SinkState) : Type 0 where
  pub cause : Rose old.faults new.faults
  pub part : IsTrue old.told → AddsPrefix old.written new.written (event_lines i steps s)

-- Beyond the program's claim: only laws, proofs and functions inside the tool cite this file.
-- A session as callers see it.
use Rattle.std.specs.Prelude.{ℕ}
use Rattle.machine_emulator.specs.Machine.{MachineState}

-- a machine, the number of its steps so far, and the callback that is asked of its events
pub record SessionState (F : Type 0) : Type 0 where
  pub machine : MachineState
  pub taken : ℕ
  pub callback : F

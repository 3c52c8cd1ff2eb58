-- The guard below the stack, and the ends of a machine that tell of the stack.
use Rattle.std.specs.Prelude.{ℕ}
use Rattle.machine_model.specs.declared.state.End.{End}
use Rattle.machine_model.specs.declared.state.End.TheVariants.{Halt, Stop}
use Rattle.machine_model.specs.declared.state.StopReason.TheVariants.{Stacking}
use Rattle.monitor_model.specs.Halts.{halt_limit, halt_loan}

-- the bytes below the stack that are its guard: the largest frame has 992, and an exception pushes 32 below it
abbrev pub guard_bytes : ℕ
guard_bytes = 1024

-- no room for an exception's frame, no whole eighth of the stack for a callee of another compartment, no loan left
pub data NamesStack : End → Type 0 where
  NoFrame : (pc : ℕ) → NamesStack (Stop Stacking pc)
  NoEighth : NamesStack (Halt halt_limit)
  NoLoan : NamesStack (Halt halt_loan)

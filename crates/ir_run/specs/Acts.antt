-- Beyond the program's claim: only laws, proofs and functions inside the tool cite this file.
-- Frames, ends and what instructions ask for, as the definition's.
use Rattle.std.specs.Prelude.{map}
use Rattle.ir_model.specs.State as state
use Rattle.ir_model.specs.State.{SourceFault, SourceEnd, StepEffect, SourceTurn}
use Rattle.ir_model.specs.Step as step
use Rattle.ir_program.specs.Values.{value_of, instance_of}
use Rattle.ir_program.specs.Storages.{pointee_of}
use Rattle.ir_run.specs.declared.frame.Frame as frames
use Rattle.ir_run.specs.declared.outcome.FaultKind.{FaultKind}
use Rattle.ir_run.specs.declared.outcome.FaultKind.TheVariants.{Null, Dead, NoCell, Constant}
use Rattle.ir_run.specs.declared.outcome.SourceEnd as ends
use Rattle.ir_run.specs.declared.outcome.SourceEnd.TheVariants.{Returned, InputEnd, Fault}
use Rattle.ir_run.specs.declared.request.Act.{Act}
use Rattle.ir_run.specs.declared.request.Act.TheVariants.{Sets, Fails, Loads, Stores, Enters}

abbrev pub frame_of : frames.Frame → state.Frame
frame_of f =
    record {
      func = f.func;
      block = f.block;
      place = f.place;
      number = f.number;
      regs = map value_of f.regs;
      locals = map (map value_of) f.locals;
    }

abbrev pub fault_of : FaultKind → SourceFault
fault_of Null = state.NullFault
fault_of Dead = state.DeadFault
fault_of NoCell = state.NoCellFault
fault_of Constant = state.ConstantFault

abbrev pub end_of : ends.SourceEnd → SourceEnd
end_of Returned = state.Returned
end_of InputEnd = state.OutOfInput
end_of (Fault f) = state.Faulted (fault_of f)

abbrev pub act_of : Act → step.SourceAct
act_of (Sets to v) = step.Sets to (value_of v)
act_of (Fails f) = step.Fails (fault_of f)
act_of (Loads to a t) = step.Loads to (instance_of a.instance) a.offset (pointee_of t)
act_of (Stores a t v) = step.Stores (instance_of a.instance) a.offset (pointee_of t) (value_of v)
act_of (Enters f vs) = step.Enters f (map value_of vs)

-- a function is entered
abbrev pub IsEntry : step.SourceAct → Type 0
IsEntry (step.Enters f vs) = Unit {0}
IsEntry _ = ⊥

abbrev pub IsCalled : StepEffect → Type 0
IsCalled (state.Called f b k g) = Unit {0}
IsCalled _ = ⊥

-- a step calls a function
abbrev pub IsCall : SourceTurn → Type 0
IsCall t = IsCalled t.did

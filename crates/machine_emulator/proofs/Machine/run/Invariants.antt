use Rattle.std.proofs.Common.{◌≡◌, ℕ, ◌+◌}
use denote.Param.Always.{always_mut}
use Rattle.std.specs.Fn.{CalledAt}
use Rattle.machine_model.specs.declared.state.End.{End}
use Rattle.machine_emulator.specs.Machine.{MachineState, IsRun}
use Rattle.machine_emulator.proofs.Machine.run.Given as goal

-- what is left of the run, with the steps before it in front, is the whole run
abbrev pub invariant-loop-step : goal.invariant-loop-step
invariant-loop-step g l =
    always_mut g.G.FnMut l.each
    × ((rest : ℕ) (new : MachineState) (last : g.row.G.Denot) (e : End) → l._step + rest ≡ l.fn.n
    → IsRun (CalledAt g.G.FnMut) rest l.self new l.each last e → IsRun (CalledAt g.G.FnMut) l.fn.n l.fn.self new l.fn.each last e)

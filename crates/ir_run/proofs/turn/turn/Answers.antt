use Rattle.std.proofs.Common.{map, Ok, Err, subst}
use Rattle.std.proofs.lemmas.Result.{on_err_weaker}
use Rattle.std.specs.Result.{OnErr}
use Rattle.ir_model.specs.Step as step
use Rattle.ir_program.specs.Parts.{operation_of}
use Rattle.ir_program.specs.Seen.{program_of, known_of}
use Rattle.ir_run.specs.Acts.{frame_of, act_of, IsEntry, IsCall}
use Rattle.ir_run.specs.States.{running_of, memory_of}
use Rattle.ir_run.proofs.Called.{calls}
use Rattle.ir_run.proofs.turn.turn.Goals as goal

pub returns-in_err-asked-in-Does-clause-memory : goal.returns-in_err-asked-in-Does-clause-memory
returns-in_err-asked-in-Does-clause-memory c =
    let p = program_of c.args.program.now in
    let parts = c.args.parts.now in
    let turn = step.source_turn p c.args.compartments.now (running_of parts) in
    let called : IsCall turn =
    calls p c.args.compartments.now (frame_of parts.top) (map frame_of parts.below) (memory_of parts) (operation_of (known_of c.args.program.now) c.in-Does.operation.now)
    c.in-Does.ensures.exact c.in_err-asked-in-Does.ensures.memory in
    elim c.from_residual.result as (λ r. OnErr r (IsCall turn)) [ Ok a ↦ tt | Err e ↦ called ]

pub returns-in_ok-asked-in-Does-clause-memory : goal.returns-in_ok-asked-in-Does-clause-memory
returns-in_ok-asked-in-Does-clause-memory c =
    let p = program_of c.args.program.now in
    let parts = c.args.parts.now in
    let inst = operation_of (known_of c.args.program.now) c.in-Does.operation.now in
    on_err_weaker c.perform.result
    (λ (h : IsEntry (act_of c.in_ok-asked-in-Does.asked)). calls p c.args.compartments.now (frame_of parts.top) (map frame_of parts.below) (memory_of parts) inst
    c.in-Does.ensures.exact (subst IsEntry c.in_ok-asked-in-Does.ensures.ok h))
    c.perform.ensures.memory

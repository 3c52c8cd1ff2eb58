use Rattle.std.proofs.Common.{◌≡◌, ℕ, ◌+◌, List, ap, refl, ◌∙◌, arith}
use Rattle.ir_model.specs.Step.{source_step}
use Rattle.ir_program.specs.Seen.{program_of}
use Rattle.ir_run.specs.Phases.{state_of}
use Rattle.ir_run.specs.Runs.{RunState}
use Rattle.ir_run.proofs.Checked.{next_run, all_small}
use Rattle.ir_run.proofs.run.SourceRun.step.Goals as goal

pub go_on-requires-clause-small : goal.go_on-requires-clause-small
go_on-requires-clause-small c =
    let run = c.self.invariant in
    all_small c.places.ensures c.values.ensures.types c.registers.ensures.elements
    (program_of c.self.inside.program.now) c.self.inside.compartments run.queues c.self.inside.taken (state_of c.self.inside.phase) run.checked run.reached

pub invariant_of-self-2 : goal.invariant_of-self-2
invariant_of-self-2 c =
    let r : RunState = record { program = program_of c.self.inside.program.now; compartments = c.self.inside.compartments; state = state_of c.self.inside.phase; taken = c.self.inside.taken } in
    let taken : c.self.inside.taken ≡ c.args.self.now.taken = ap (λ (x : RunState). x.taken) c.self.view_is in
    next_run c.frames.ensures c.moves.ensures r (state_of c.go_on.new.phase) (c.self.inside.taken + 1) c.self.invariant
    (c.in_ok-answer.ensures.goes ∙ ap (λ (cs : List ℕ). source_step r.program cs r.state) c.as_slice.ensures) refl (omega arith)

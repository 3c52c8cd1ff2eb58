use Rattle.std.proofs.Common.{ap, ◌∙◌}
use Rattle.ir_program.specs.Seen.{program_of}
use Rattle.code_model.specs.Planned.{sizes_of}
use Rattle.plan.proofs.Refusing.{placed_is}
use Rattle.plan.proofs.planner.placed_graph.Goals as goal

pub sizes-requires-clause-few : goal.sizes-requires-clause-few
sizes-requires-clause-few c = c.slots.ensures.few c.requires.board

pub returns-in-Ok-clause-placed : goal.returns-in-Ok-clause-placed
returns-in-Ok-clause-placed c =
    let p = program_of c.args.program.now in
    let n = c.args.needs.now in
    placed_is p n c.args.board.now c.args.graph c.in_ok-sizes.sizes c.in-Ok.plan (c.in_ok-sizes.ensures ∙ ap (sizes_of p n c.args.graph) c.slots.ensures.slots) c.in-Ok.ensures.ok

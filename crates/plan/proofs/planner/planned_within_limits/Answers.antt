use Rattle.std.proofs.Common.{◌≡◌, ℕ, length, Some, sym, ap, subst, ◌∙◌}
use Rattle.ir_program.specs.Seen.{program_of}
use Rattle.plan_model.specs.declared.groups.Groups.{Groups}
use Rattle.plan_model.specs.FinalGraph.{IsFinal}
use Rattle.plan_denials.specs.Meetings.{KeepsOff, first_meeting}
use Rattle.plan.proofs.Kept.{final_groups}
use Rattle.plan.proofs.Refusing.{planned_is, refused_is}
use Rattle.plan.proofs.planner.planned_within_limits.Goals as goal

pub final_graph-requires-clause-two : goal.final_graph-requires-clause-two
final_graph-requires-clause-two c = c.slots.ensures.two c.requires.board

pub placed_graph-requires-clause-each : goal.placed_graph-requires-clause-each
placed_graph-requires-clause-each c =
    ap (λ (g : Groups). length g.of) (final_groups (program_of c.args.program.now) c.args.needs.now c.args.groups c.slots.result c.in_ok-graph.graph c.in_ok-graph.ensures)
    ∙ c.requires.each

pub returns-clause-ok : goal.returns-clause-ok
returns-clause-ok c =
    let p = program_of c.args.program.now in
    let n = c.args.needs.now in
    let graph = c.in_ok-graph.graph in
    let final = subst (λ (k : ℕ). IsFinal p n c.args.groups k graph) c.slots.ensures.slots c.in_ok-graph.ensures in
    planned_is p n c.args.groups c.args.board.now graph c.requires.limits final (subst (λ x. KeepsOff x p graph) c.as_slice.ensures (sym (sym c.in_default.is ∙ c.first_meeting.ensures))) c.placed_graph.result c.placed_graph.ensures.graph c.placed_graph.ensures.placed

pub returns-clause-refused : goal.returns-clause-refused
returns-clause-refused c =
    let p = program_of c.args.program.now in
    let n = c.args.needs.now in
    let graph = c.in_ok-graph.graph in
    let final = subst (λ (k : ℕ). IsFinal p n c.args.groups k graph) c.slots.ensures.slots c.in_ok-graph.ensures in
    refused_is p n c.args.groups c.args.board.now graph c.requires.limits final (subst (λ x. KeepsOff x p graph) c.as_slice.ensures (sym (sym c.in_default.is ∙ c.first_meeting.ensures))) c.placed_graph.result c.placed_graph.ensures.refused

pub returns-in-Some-clause-refused : goal.returns-in-Some-clause-refused
returns-in-Some-clause-refused c =
    let p = program_of c.args.program.now in
    let n = c.args.needs.now in
    let graph = c.in_ok-graph.graph in
    let final = subst (λ (k : ℕ). IsFinal p n c.args.groups k graph) c.slots.ensures.slots c.in_ok-graph.ensures in
    record { limits = c.requires.limits; graph = graph; final = final; meets = subst (λ x. first_meeting x p graph ≡ Some c.in-Some.meeting) c.as_slice.ensures (sym c.in-Some.ensures) }

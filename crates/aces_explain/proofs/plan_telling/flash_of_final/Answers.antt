use Rattle.std.proofs.Common.{ℕ, length, ap, subst, ◌∙◌}
use Rattle.std.proofs.lemmas.Result.{IfOk-weaker}
use Rattle.ir_program.specs.Seen.{program_of}
use Rattle.plan_model.specs.declared.groups.Groups.{Groups}
use Rattle.plan_model.specs.declared.plan.Sizes.{Sizes}
use Rattle.plan_model.specs.FinalGraph.{IsFinal}
use Rattle.code_model.specs.Planned.{sizes_of}
use Rattle.aces_explain.specs.PlanTold.{flash_told}
use Rattle.plan.proofs.Kept.{final_groups}
use Rattle.aces_explain.proofs.plan_telling.flash_of_final.Goals as goal

pub final_graph-requires-clause-two : goal.final_graph-requires-clause-two
final_graph-requires-clause-two c = c.slots-count.ensures.two c.requires.board

pub sizes-requires-clause-few : goal.sizes-requires-clause-few
sizes-requires-clause-few c = c.slots-count.ensures.few c.requires.board

pub sizes-requires-clause-each : goal.sizes-requires-clause-each
sizes-requires-clause-each c =
    ap (λ (g : Groups). length g.of) (final_groups (program_of c.args.program.now) c.args.needs.now c.args.groups c.slots-count.result c.in_ok-graph.graph c.in_ok-graph.ensures)
    ∙ c.requires.each

pub returns : goal.returns
returns c =
    let p = program_of c.args.program.now in
    let n = c.args.needs.now in
    let graph = c.in_ok-graph.graph in
    let final = subst (λ (k : ℕ). IsFinal p n c.args.groups k graph) c.slots-count.ensures.slots c.in_ok-graph.ensures in
    let sized = c.in_ok-sizes.ensures ∙ ap (sizes_of p n graph) c.slots-count.ensures.slots in
    let lack = c.args.lack in
    IfOk-weaker c.flash_told.result _ _
    (λ text h. record {
      graph = graph;
      final = final;
      same = h ∙ ap (λ (s : Sizes). flash_told s lack) sized;
    })
    c.flash_told.ensures

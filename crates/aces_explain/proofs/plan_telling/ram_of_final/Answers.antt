use Rattle.std.proofs.Common.{ℕ, subst}
use Rattle.std.proofs.lemmas.Result.{IfOk-weaker}
use Rattle.ir_program.specs.Seen.{program_of}
use Rattle.plan_model.specs.FinalGraph.{IsFinal}
use Rattle.aces_explain.proofs.plan_telling.ram_of_final.Goals as goal

pub final_graph-requires-clause-two : goal.final_graph-requires-clause-two
final_graph-requires-clause-two c = c.slots.ensures.two c.requires.board

pub returns : goal.returns
returns c =
    let p = program_of c.args.program.now in
    let n = c.args.needs.now in
    let graph = c.in_ok-graph.graph in
    let final = subst (λ (k : ℕ). IsFinal p n c.args.groups k graph) c.slots.ensures.slots c.in_ok-graph.ensures in
    IfOk-weaker c.ram_told.result _ _ (λ text h. record { graph = graph; final = final; same = h }) c.ram_told.ensures

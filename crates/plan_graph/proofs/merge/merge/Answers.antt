use Rattle.std.proofs.Common.{◌≡◌, ◌<◌, ◌≤◌, ◌+◌, ℕ, None, [], get_or, length, subst, sym, ap, ◌∙◌}
use Rattle.ir_program.specs.Seen.{program_of}
use Rattle.plan_model.specs.declared.graph.Final.{Final}
use Rattle.plan_model.specs.declared.graph.Graph.{Graph}
use Rattle.plan_model.specs.FinalGraph.{Merges, stays}
use Rattle.plan_model.specs.Merging.{next, covers_at}
use Rattle.plan_model.specs.Regions.{regions_used}
use Rattle.plan_graph.specs.Merging.{CameTo}
use Rattle.plan_graph.proofs.Ending.{more_joined}
use Rattle.plan_graph.proofs.Few.{few_parts}
use Rattle.plan_graph.proofs.merge.merge.Goals as goal

pub loop-merging-init : goal.loop-merging-init
loop-merging-init c =
    record {
      merging = c.in_ok-merging.ensures.merging;
      program = c.in_ok-merging.ensures.program;
      reached = subst (λ (h : Graph). Merges (program_of c.args.program.now) c.args.slots c.args.graph h) (sym c.in_ok-merging.ensures.graph) stays;
    }

pub loop-merging-preserved : goal.loop-merging-preserved
loop-merging-preserved c =
    let before = c.loop-merging.merging in
    let step = subst (λ b. CameTo b (next (program_of before.program.now) c.args.slots before.graph) before.graph c.join.new.self.graph) c.if-branch.true c.in_ok-join.ensures.graph in
    record {
      merging = c.in_ok-join.ensures.merging;
      program = c.in_ok-join.ensures.program ∙ c.loop-merging.invariant.program;
      reached = more_joined (program_of c.args.program.now) c.args.slots c.loop-merging.invariant.reached (ap (λ q. next (program_of q) c.args.slots before.graph) (sym c.loop-merging.invariant.program) ∙ step.0);
    }

pub returns-clause-few : goal.returns-clause-few
returns-clause-few c =
    let before = c.loop-merging.merging in
    let step = subst (λ b. CameTo b (next (program_of before.program.now) c.args.slots before.graph) before.graph c.join.new.self.graph) c.if-branch.false c.in_ok-join.ensures.graph in
    let ended : next (program_of c.args.program.now) c.args.slots before.graph ≡ None = ap (λ q. next (program_of q) c.args.slots before.graph) (sym c.loop-merging.invariant.program) ∙ step.0 in
    let few = subst (λ (h : Graph). (k : ℕ) → k < h.groups.count → length (regions_used h.regions k) + length (covers_at h k) ≤ c.args.slots) (sym (c.into_graph.ensures ∙ step.1)) (few_parts (program_of c.args.program.now) c.args.slots before.graph c.requires ended) in
    subst (λ (last : Final). (k : ℕ) → k < last.groups.count → length (regions_used last.regions k) + length (get_or last.covers k []) ≤ c.args.slots) (sym c.into_final.ensures) few

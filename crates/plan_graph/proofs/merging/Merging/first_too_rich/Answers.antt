use Rattle.std.proofs.Common.{sym, ◌∙◌, arith}
use Rattle.plan_model.specs.Merging.{is_too_rich}
use Rattle.plan_graph.proofs.Found.{found_below, none_below}
use Rattle.plan_graph.proofs.merging.Merging.first_too_rich.Goals as goal

pub returns-then-rich : goal.returns-then-rich
returns-then-rich c =
    sym (found_below (is_too_rich c.args.slots c.args.self.now.graph) c.args.self.now.graph.groups.count c.loop-compartment.compartment c.loop-compartment-test.true (sym c.in_ok-rich.ensures ∙ c.if-rich.true) c.loop-compartment.invariant)

pub returns : goal.returns
returns c = sym (none_below (is_too_rich c.args.slots c.args.self.now.graph) c.args.self.now.graph.groups.count (λ i l. c.loop-compartment.invariant i (omega arith)))

use Rattle.std.proofs.Common.{◌≡◌, ℕ, ◌<◌, false}
use Rattle.plan_model.specs.Merging.{is_too_rich}
use Rattle.plan_graph.proofs.merging.Merging.first_too_rich.Given as goal

abbrev pub invariant-loop-compartment : goal.invariant-loop-compartment
invariant-loop-compartment l = (c : ℕ) → c < l.compartment → is_too_rich l.slots l.self.graph c ≡ false

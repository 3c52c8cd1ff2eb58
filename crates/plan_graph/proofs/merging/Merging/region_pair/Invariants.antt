use Rattle.std.proofs.Common.{◌≡◌, map, drop, None}
use Rattle.ir_program.specs.Seen.{program_of}
use Rattle.plan_model.specs.Choices.{pairs}
use Rattle.plan_model.specs.Merging.{region_cost}
use Rattle.plan_graph.specs.Choices.{priced, cheapest_from}
use Rattle.plan_graph.proofs.merging.Merging.region_pair.Given as goal

abbrev pub invariant-loop-i : goal.invariant-loop-i
invariant-loop-i l = cheapest_from l.best (map (priced (region_cost (program_of l.self.program.now) l.self.graph.regions)) (pairs (drop l.i l.places)))
    ≡ cheapest_from None (map (priced (region_cost (program_of l.self.program.now) l.self.graph.regions)) (pairs l.places))

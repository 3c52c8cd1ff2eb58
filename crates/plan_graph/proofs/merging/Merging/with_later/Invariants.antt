use Rattle.std.proofs.Common.{◌≡◌, map, take}
use Rattle.ir_program.specs.Seen.{program_of}
use Rattle.plan_model.specs.Merging.{region_cost}
use Rattle.plan_graph.specs.Choices.{priced, cheapest_from, pairs_with}
use Rattle.plan_graph.proofs.merging.Merging.with_later.Given as goal

abbrev pub invariant-loop-i : goal.invariant-loop-i
invariant-loop-i l = l.best ≡ cheapest_from l.initial.best (map (priced (region_cost (program_of l.self.program.now) l.self.graph.regions)) (pairs_with l.first (take l.i l.later)))

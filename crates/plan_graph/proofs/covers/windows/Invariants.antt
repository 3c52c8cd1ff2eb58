use Rattle.std.proofs.Common.{◌≡◌, map, filter}
use Rattle.ir_program.specs.Seen.{program_of}
use Rattle.plan_model.specs.Groups.{uses}
use Rattle.plan_model.specs.InitialGraph.{cover_of}
use Rattle.plan_model.specs.Lists.{numbers_below}
use Rattle.plan_graph.proofs.covers.windows.Given as goal

abbrev pub invariant-loop-periph : goal.invariant-loop-periph
invariant-loop-periph l = l.covers.items ≡ map (cover_of (program_of l.program)) (filter (uses l.needs l.groups l.compartment) (numbers_below l.periph))

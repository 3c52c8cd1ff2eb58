use Rattle.std.specs.List.{flat_map}
use Rattle.ir_program.specs.Seen.{program_of}
use Rattle.plan_model.specs.Lists.{numbers_below}
use Rattle.need_sets.specs.Demands.{global_demands}
use Rattle.need_sets.specs.Gathered.{Gathers}
use Rattle.need_constraints.proofs.generator.Generator.put_globals.Given as goal

abbrev pub invariant-loop-global : goal.invariant-loop-global
invariant-loop-global l = Gathers l.self.numbering l.initial.rules l.rules (flat_map (global_demands (program_of l.self.program.now)) (numbers_below l.global))

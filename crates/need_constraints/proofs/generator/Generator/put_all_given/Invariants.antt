use Rattle.std.specs.List.{flat_map}
use Rattle.ir_program.specs.Seen.{program_of}
use Rattle.plan_model.specs.Lists.{numbers_below}
use Rattle.need_sets.specs.Demands.{argument_given}
use Rattle.need_sets.specs.Gathered.{Gathers}
use Rattle.need_constraints.proofs.generator.Generator.put_all_given.Given as goal

abbrev pub invariant-loop-place : goal.invariant-loop-place
invariant-loop-place l = Gathers l.self.numbering l.initial.rules l.rules (flat_map (argument_given (program_of l.self.program.now) l.func l.pointer l.args) (numbers_below l.place))

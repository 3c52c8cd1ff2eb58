use Rattle.std.proofs.Common.{map, take}
use Rattle.std.specs.List.{flat_map}
use Rattle.ir_program.specs.Values.{value_of}
use Rattle.need_sets.specs.Demands.{value_demands}
use Rattle.need_sets.specs.Gathered.{Gathers}
use Rattle.need_constraints.proofs.generator.Generator.put_values.Given as goal

abbrev pub invariant-loop-i : goal.invariant-loop-i
invariant-loop-i l = Gathers l.self.numbering l.initial.rules l.rules (flat_map (value_demands l.global) (map (value_of) (take l.i l.values)))

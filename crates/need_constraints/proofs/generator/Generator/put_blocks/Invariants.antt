use Rattle.std.proofs.Common.{map, take}
use Rattle.std.specs.List.{flat_map}
use Rattle.ir_program.specs.Parts.{sequence_of}
use Rattle.ir_program.specs.Seen.{program_of, known_of}
use Rattle.need_sets.specs.Demands.{block_demands}
use Rattle.need_sets.specs.Gathered.{Gathers}
use Rattle.need_constraints.proofs.generator.Generator.put_blocks.Given as goal

abbrev pub invariant-loop-i : goal.invariant-loop-i
invariant-loop-i l = Gathers l.self.numbering l.initial.rules l.rules (flat_map (block_demands (program_of l.self.program.now) l.func) (map (sequence_of (known_of l.self.program.now)) (take l.i l.blocks)))

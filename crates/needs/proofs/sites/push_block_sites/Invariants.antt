use Rattle.std.proofs.Common.{map, take}
use Rattle.ir_program.specs.Parts.{operation_of}
use Rattle.ir_program.specs.Seen.{program_of, known_of}
use Rattle.ir_laws.specs.Sets.{ObjectSets}
use Rattle.plan_model.specs.Calls.{calls_from}
use Rattle.needs.specs.Accesses.{HasTargets}
use Rattle.needs.specs.Sites.{Adds}
use Rattle.needs.proofs.sites.push_block_sites.Given as goal

abbrev pub invariant-loop-i : goal.invariant-loop-i
invariant-loop-i l = (S : ObjectSets) → HasTargets (program_of l.program) S l.func l.targets → Adds (program_of l.program) S l.initial.sites.items l.sites.items (calls_from l.func l.block 0 (map (operation_of (known_of l.program)) (take l.i l.operations)))

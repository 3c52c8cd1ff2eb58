use Rattle.std.proofs.Common.{◌≡◌, ◌++◌, List, map, take}
use Rattle.std.specs.List.{flat_map}
use Rattle.ir_model.specs.Layout.{Known}
use Rattle.ir_program.specs.Parts.{operation_of}
use Rattle.needs.specs.Uses.{used}
use Rattle.needs.proofs.instructions.push_uses.Given as goal

abbrev pub invariant-loop-i : goal.invariant-loop-i
invariant-loop-i l = (ks : List Known) → l.uses.items ≡ l.initial.uses.items ++ flat_map used (map (operation_of ks) (take l.i l.operations))

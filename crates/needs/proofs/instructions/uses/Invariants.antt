use Rattle.std.proofs.Common.{◌≡◌, List, map, take}
use Rattle.ir_model.specs.Layout.{Known}
use Rattle.ir_program.specs.Parts.{sequence_of}
use Rattle.needs.specs.Uses.{uses_in}
use Rattle.needs.proofs.instructions.uses.Given as goal

abbrev pub invariant-loop-i : goal.invariant-loop-i
invariant-loop-i l = (ks : List Known) → l.uses.items ≡ uses_in (map (sequence_of ks) (take l.i l.blocks))

use Rattle.std.proofs.Common.{◌≡◌, false, List, map, take}
use Rattle.std.specs.List.{list_any}
use Rattle.ir_model.specs.Layout.{Known}
use Rattle.ir_program.specs.Parts.{sequence_of}
use Rattle.aces_why.specs.Shared.{is_stored_in}
use Rattle.aces_why.proofs.shared.is_stored_through.Given as goal

abbrev pub invariant-loop-i : goal.invariant-loop-i
invariant-loop-i l = (ks : List Known) → list_any (is_stored_in l.register) (map (sequence_of ks) (take l.i l.blocks)) ≡ false

use Rattle.std.proofs.Common.{◌≡◌, false, List, map, take}
use Rattle.std.specs.List.{list_any}
use Rattle.ir_model.specs.Layout.{Known}
use Rattle.ir_program.specs.Parts.{operation_of}
use Rattle.aces_why.specs.Shared.{is_store_by}
use Rattle.aces_why.proofs.shared.is_stored_in.Given as goal

abbrev pub invariant-loop-i : goal.invariant-loop-i
invariant-loop-i l = (ks : List Known) → list_any (is_store_by l.register) (map (operation_of ks) (take l.i l.operations)) ≡ false

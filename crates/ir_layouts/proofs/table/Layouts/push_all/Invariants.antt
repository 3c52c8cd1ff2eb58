use Rattle.std.proofs.Common.{◌≡◌, take, map, drop, []}
use Rattle.ir_model.specs.Plain.{struct_of}
use Rattle.ir_layouts.specs.Tables.{HasTooLarge}
use Rattle.ir_layouts.proofs.table.Layouts.push_all.Given as goal

abbrev pub invariant-loop-declaration : goal.invariant-loop-declaration
invariant-loop-declaration l = record {
  laid : l.self ≡ take l.declaration-index l.structs;
  left : HasTooLarge (map struct_of (take l.declaration-index l.structs)) (map struct_of (drop l.declaration-index l.structs)) → HasTooLarge [] (map struct_of l.structs);
}

use Rattle.std.proofs.Common.{◌≡◌, [], map, take, drop}
use Rattle.ir_model.specs.Plain.{struct_of}
use Rattle.ir_model.specs.Typing.{first_failing, structs_checks}
use Rattle.ir_check_declarations.proofs.structs.structs.Given as goal

abbrev pub invariant-loop-declaration : goal.invariant-loop-declaration
invariant-loop-declaration l = record {
  left : first_failing (structs_checks l.declared [] (map struct_of l.structs)) ≡ first_failing (structs_checks l.declared (map struct_of (take l.declaration-index l.structs)) (map struct_of (drop l.declaration-index l.structs)));
  all : l.layouts ≡ take l.declaration-index l.structs;
}

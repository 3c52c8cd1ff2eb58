use Rattle.std.proofs.Common.{◌≡◌, take, map}
use Rattle.std.specs.List.{sum_by}
use Rattle.ir_model.specs.Plain.{struct_of}
use Rattle.ir_text_places.specs.Sizes.{struct_size}
use Rattle.ir_text_places.proofs.declarations.structs_size.Given as goal

abbrev pub invariant-loop-decl : goal.invariant-loop-decl
invariant-loop-decl l = l.size ≡ sum_by struct_size (map struct_of (take l.decl-index l.structs))

use Rattle.std.proofs.Common.{◌≡◌, take, map}
use Rattle.ir_model.specs.Plain.{binding_of}
use Rattle.ir_text_places.specs.Sizes.{bindings_size}
use Rattle.ir_text_places.proofs.declarations.bindings_size.Given as goal

abbrev pub invariant-loop-binding : goal.invariant-loop-binding
invariant-loop-binding l = l.size ≡ bindings_size (map binding_of (take l.binding-index l.bindings))

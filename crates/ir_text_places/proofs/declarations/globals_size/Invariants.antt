use Rattle.std.proofs.Common.{◌≡◌, take, map}
use Rattle.std.specs.List.{sum_by}
use Rattle.ir_model.specs.Plain.{global_of}
use Rattle.ir_text_places.specs.Sizes.{global_size}
use Rattle.ir_text_places.proofs.declarations.globals_size.Given as goal

abbrev pub invariant-loop-global : goal.invariant-loop-global
invariant-loop-global l = l.size ≡ sum_by global_size (map global_of (take l.global-index l.globals))

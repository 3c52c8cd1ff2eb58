use Rattle.std.proofs.Common.{◌≡◌, take, map}
use Rattle.ir_model.specs.Plain.{func_of}
use Rattle.ir_text_places.specs.Sizes.{funcs_size}
use Rattle.ir_text_places.proofs.functions.funcs_size.Given as goal

abbrev pub invariant-loop-func : goal.invariant-loop-func
invariant-loop-func l = l.size ≡ funcs_size (map func_of (take l.func-index l.funcs))

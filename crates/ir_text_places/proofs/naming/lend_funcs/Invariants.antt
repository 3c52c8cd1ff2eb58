use Rattle.std.proofs.Common.{◌≡◌, ◌++◌, map, take}
use Rattle.ir_model.specs.Plain.{func_of, lent_funcs}
use Rattle.ir_text_places.proofs.naming.lend_funcs.Given as goal

abbrev pub invariant-loop-func : goal.invariant-loop-func
invariant-loop-func l = lent_funcs l.bodies.items ≡ lent_funcs l.initial.bodies.items ++ map func_of (take l.func-index l.funcs)

use Rattle.std.proofs.Common.{◌≡◌, ◌++◌, map, take}
use Rattle.ir_model.specs.Plain.{func_of}
use Rattle.ir_resolve.proofs.routines.push_funcs.Given as goal

abbrev pub invariant-loop-func : goal.invariant-loop-func
invariant-loop-func l = map (λ f. func_of f.now) l.funcs.items ≡ map (λ f. func_of f.now) l.initial.funcs.items ++ map func_of (take l.func-index l.more)

use Rattle.std.proofs.Common.{◌≡◌, ◌++◌, map, take}
use Rattle.ir_model.specs.Plain.{PlainFunc, lent_funcs}
use Rattle.ir_text_places.specs.Rows.{names_in}
use Rattle.ir_text_places.proofs.rows.put_funcs.Given as goal

abbrev pub invariant-loop-func : goal.invariant-loop-func
invariant-loop-func l = names_in l.row.items ≡ names_in l.initial.row.items ++ map (λ (f : PlainFunc). f.name) (lent_funcs (take l.func-index l.bodies))

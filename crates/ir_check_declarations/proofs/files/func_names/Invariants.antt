use Rattle.std.proofs.Common.{◌≡◌, ◌++◌, map, take, drop}
use Rattle.ir_model.specs.Plain.{PlainFunc, func_of}
use Rattle.ir_model.specs.Typing.{first_failing, func_name_checks}
use Rattle.ir_check_declarations.proofs.files.func_names.Given as goal

abbrev pub invariant-loop-func : goal.invariant-loop-func
invariant-loop-func l = record {
  left : first_failing (func_name_checks l.initial.seen (map func_of l.funcs)) ≡ first_failing (func_name_checks l.seen (map func_of (drop l.func-index l.funcs)));
  names : l.seen ≡ l.initial.seen ++ map (λ (f : PlainFunc). f.name) (map func_of (take l.func-index l.funcs));
}

use Rattle.std.proofs.Common.{◌≡◌, ◌∙◌, ap, sym, subst, true, false, get_or, Some, Bor}
use Rattle.ir_model.specs.declared.firmware.Func.{Func}
use Rattle.ir_model.specs.Types.{Callee}
use Rattle.ir_model.specs.Plain.{func_of, funcs_of, firmware_of}
use Rattle.base_names.specs.Numbers.{has, number_of}
use Rattle.ir_model.specs.Resolve.{row_from}
use Rattle.ir_check_scopes.proofs.NamedTypes.{func_at, func_nowhere}
use Rattle.ir_check_scopes.proofs.LentFuncs.{all_lent}
use Rattle.ir_check_scopes.proofs.lookup.word_named.Goals as goal

pub returns-in_default : goal.returns-in_default
returns-in_default c =
    func_nowhere (funcs_of (firmware_of c.args.scope.now.firmware.now)) c.args.word.now
    (subst (λ ns. has ns c.args.word.now ≡ false) c.args.scope.now.all_funcs c.in_default.ensures)

pub returns : goal.returns
returns c =
    func_at (λ (b : Bor Func). func_of b.now) c.args.scope.now.bodies.items (funcs_of (firmware_of c.args.scope.now.firmware.now)) c.args.word.now c.in-Some.place c.index-as_slice-place.result
    (all_lent c.args.scope.now)
    (subst (λ ns. has ns c.args.word.now ≡ true) c.args.scope.now.all_funcs c.in-Some.ensures.0)
    (subst (λ ns. c.in-Some.place ≡ number_of ns c.args.word.now) c.args.scope.now.all_funcs c.in-Some.ensures.1.0)
    ∙ ap (λ (b : Bor Func). Some (Callee (row_from (func_of b.now).params) (func_of b.now).outcome))
    (ap (λ xs. get_or xs c.in-Some.place c.index-as_slice-place.result) (sym c.as_slice.ensures.value) ∙ sym c.index-as_slice-place.is)

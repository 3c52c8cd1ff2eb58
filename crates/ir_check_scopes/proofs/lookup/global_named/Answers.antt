use Rattle.std.proofs.Common.{◌≡◌, ◌∙◌, ap, sym, subst, true, false, map, get_or, Some}
use Rattle.ir_model.specs.Types.{type_of}
use Rattle.ir_model.specs.Plain.{global_of}
use Rattle.base_names.specs.Numbers.{has, number_of}
use Rattle.ir_check_scopes.proofs.NamedTypes.{global_at, global_nowhere}
use Rattle.ir_check_scopes.proofs.lookup.global_named.Goals as goal

pub returns-in_default : goal.returns-in_default
returns-in_default c =
    global_nowhere (map global_of c.args.scope.now.firmware.now.globals) c.args.name.now
    (subst (λ ns. has ns c.args.name.now ≡ false) c.args.scope.now.all_globals c.in_default.ensures)

pub returns : goal.returns
returns c =
    global_at c.args.scope.now.firmware.now.globals c.args.name.now c.in-Some.place c.index-as_slice-place.result
    (subst (λ ns. has ns c.args.name.now ≡ true) c.args.scope.now.all_globals c.in-Some.ensures.0)
    (subst (λ ns. c.in-Some.place ≡ number_of ns c.args.name.now) c.args.scope.now.all_globals c.in-Some.ensures.1.0)
    ∙ ap (λ xs. Some (type_of (get_or xs c.in-Some.place c.index-as_slice-place.result).ty)) (sym c.as_slice.ensures)

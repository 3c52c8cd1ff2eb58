use Rattle.std.proofs.Common.{◌≡◌, ◌∙◌, ap, sym, subst, true, get_or, Some}
use Rattle.ir_model.specs.Types.{type_of}
use Rattle.base_names.specs.Numbers.{has, number_of}
use Rattle.ir_check_scopes.proofs.NamedTypes.{binding_at}
use Rattle.ir_check_scopes.proofs.lookup.local_named.Goals as goal

pub returns-clause-ty : goal.returns-clause-ty
returns-clause-ty c =
    binding_at c.args.scope.now.func.now.locals c.args.name.now c.in-Some.place c.index-as_slice-place.result
    (subst (λ ns. has ns c.args.name.now ≡ true) c.args.scope.now.all_locals c.in-Some.ensures.0)
    (subst (λ ns. c.in-Some.place ≡ number_of ns c.args.name.now) c.args.scope.now.all_locals c.in-Some.ensures.1.0)
    ∙ ap (λ xs. Some (type_of (get_or xs c.in-Some.place c.index-as_slice-place.result).ty)) (sym c.as_slice.ensures)

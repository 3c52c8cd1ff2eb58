use Rattle.std.proofs.Common.{◌≡◌, ◌∙◌, ap, sym, subst, map, option_map, Some, None, Bor}
use Rattle.ir_model.specs.declared.types.Ty.{Ty}
use Rattle.ir_model.specs.Types.{PlainType, type_of}
use Rattle.ir_model.specs.Plain.{func_of, binding_of}
use Rattle.ir_model.specs.Rules.{binding_type}
use Rattle.ir_check_details.proofs.FirstNamed.{is_param, is_register, is_absent}
use Rattle.ir_check_details.proofs.lookup.register_type.Goals as goal

abbrev seen : Bor Ty → PlainType
seen t = type_of t.now

pub returns-in-Some : goal.returns-in-Some
returns-in-Some c =
    let e : binding_type (map binding_of c.args.site.now.func.now.params) c.args.name.now ≡ Some (type_of c.in-Some.ty.now) =
    subst (λ ss. binding_type (map binding_of ss) c.args.name.now ≡ Some (type_of c.in-Some.ty.now)) c.as_slice.ensures
    (subst (λ n. binding_type (map binding_of c.as_slice.result.now) n ≡ Some (type_of c.in-Some.ty.now)) c.as_slice-2.ensures.same
    (sym c.binding_named.ensures ∙ ap (option_map seen) c.in-Some.is)) in
    sym (is_param (func_of c.args.site.now.func.now) c.args.name.now (type_of c.in-Some.ty.now) e)

pub returns-in-Some-binding_named : goal.returns-in-Some-binding_named
returns-in-Some-binding_named c =
    let e : binding_type (map binding_of c.args.site.now.func.now.params) c.args.name.now ≡ None =
    subst (λ ss. binding_type (map binding_of ss) c.args.name.now ≡ None) c.as_slice.ensures
    (subst (λ n. binding_type (map binding_of c.as_slice.result.now) n ≡ None) c.as_slice-2.ensures.same
    (sym c.binding_named.ensures ∙ ap (option_map seen) c.in-None.is)) in
    let r : binding_type (map binding_of c.args.site.now.func.now.regs) c.args.name.now ≡ Some (type_of c.in-Some-binding_named.ty.now) =
    subst (λ ss. binding_type (map binding_of ss) c.args.name.now ≡ Some (type_of c.in-Some-binding_named.ty.now)) c.as_slice-in-None.ensures
    (subst (λ n. binding_type (map binding_of c.as_slice-in-None.result.now) n ≡ Some (type_of c.in-Some-binding_named.ty.now)) c.as_slice-in-None-2.ensures.same
    (sym c.binding_named-in-None.ensures ∙ ap (option_map seen) c.in-Some-binding_named.is)) in
    sym (is_register (func_of c.args.site.now.func.now) c.args.name.now (type_of c.in-Some-binding_named.ty.now) e r)

pub returns-in-None-binding_named : goal.returns-in-None-binding_named
returns-in-None-binding_named c =
    let e : binding_type (map binding_of c.args.site.now.func.now.params) c.args.name.now ≡ None =
    subst (λ ss. binding_type (map binding_of ss) c.args.name.now ≡ None) c.as_slice.ensures
    (subst (λ n. binding_type (map binding_of c.as_slice.result.now) n ≡ None) c.as_slice-2.ensures.same
    (sym c.binding_named.ensures ∙ ap (option_map seen) c.in-None.is)) in
    let r : binding_type (map binding_of c.args.site.now.func.now.regs) c.args.name.now ≡ None =
    subst (λ ss. binding_type (map binding_of ss) c.args.name.now ≡ None) c.as_slice-in-None.ensures
    (subst (λ n. binding_type (map binding_of c.as_slice-in-None.result.now) n ≡ None) c.as_slice-in-None-2.ensures.same
    (sym c.binding_named-in-None.ensures ∙ ap (option_map seen) c.in-None-binding_named.is)) in
    ap type_of c.args.site.now.number_is_word ∙ sym (is_absent (func_of c.args.site.now.func.now) c.args.name.now e r)

use Rattle.std.proofs.Common.{refl, ap, ◌∙◌, map, length}
use Rattle.ir_model.specs.declared.firmware.Func.{Func}
use Rattle.ir_model.specs.Layout.{known, shape, Shape}
use Rattle.ir_model.specs.Plain.{PlainBinding, struct_of, binding_of, func_of, types_of, regs_of}
use Rattle.ir_model.specs.Resolve.{resolved_block}
use Rattle.ir_model.specs.Types.{type_of}
use Rattle.ir_resolve.specs.Scopes.{scope_of}
use Rattle.ir_resolve.proofs.Functions.{same_function}
use Rattle.ir_resolve.proofs.routines.routine.Goals as goal

pub returns-clause-exact : goal.returns-clause-exact
returns-clause-exact c =
    let ks = known (map struct_of c.args.scope.now.layouts) in
    let same = c.in_ok-func.ensures.same in
    same_function _ _ refl refl
    (ap (map (λ u. type_of u.now)) c.into_types.ensures ∙ c.in_ok-func.ensures.names.types ∙ ap (λ (f : Func). types_of (regs_of (func_of f))) same)
    (c.in_ok-locals.ensures.shapes ∙ ap (λ z. map (λ (l : PlainBinding). shape ks l.ty) (map binding_of z)) c.as_slice.ensures)
    (c.in_ok-blocks.ensures ∙ ap (λ (f : Func). map (resolved_block (scope_of c.args.scope.now) (func_of f)) f.blocks) same)

pub returns-clause-cells : goal.returns-clause-cells
returns-clause-cells c =
    let ks = known (map struct_of c.args.scope.now.layouts) in
    c.in_ok-locals.ensures.cells ∙ ap (λ z. map (λ (s : Shape). length s.cells) (map (λ (l : PlainBinding). shape ks l.ty) (map binding_of z))) c.as_slice.ensures

use Rattle.std.proofs.Common.{arith, ap, ◌∙◌}
use Rattle.std.proofs.lemmas.Grind.{common_steps}
use Rattle.ir_model.specs.declared.types.Ty as code
use Rattle.ir_model.specs.Types.{type_of}
use Rattle.ir_text_places.specs.Sizes.{type_size}
use Rattle.ir_text_places.proofs.TypeRows.{callee_size, row_next}
use Rattle.ir_text_places.proofs.types.+types.Goals as goal

pub type_size-returns-in_ok-add-in-Callee : goal.type_size-returns-in_ok-add-in-Callee
type_size-returns-in_ok-add-in-Callee t c =
    let e = ap (λ (u : code.Ty). type_size (type_of u)) c.in-Callee.is ∙ callee_size c.in-Callee.signature in
    grind (arith, common_steps, e)

pub row_size-loop-ty-preserved : goal.row_size-loop-ty-preserved
row_size-loop-ty-preserved t c =
    row_next c.args.types.now c.loop-ty.ty-index c.ty-item.result _ _ _ _
    (omega arith) c.ty-item.is c.loop-ty.invariant c.in_ok-type_size.ensures c.in_ok-more.ensures c.in_ok-size.ensures

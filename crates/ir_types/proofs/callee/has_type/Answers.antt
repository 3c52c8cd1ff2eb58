use Rattle.std.proofs.Common.{◌≡◌, ◌↔◌, IsTrue, sym, subst}
use Rattle.ir_model.specs.Types.{Callee, type_of}
use Rattle.ir_model.specs.Plain.{func_of}
use Rattle.ir_model.specs.Resolve.{row_from}
use Rattle.ir_model.proofs.SameTypes.{same_exactly}
use Rattle.ir_types.proofs.callee.has_type.Goals as goal

pub returns : goal.returns
returns c =
    let f = func_of c.args.func.now in
    subst (λ b. IsTrue b ↔ (Callee (row_from f.params) f.outcome ≡ type_of c.args.ty.now)) (sym c.is_callee.ensures) (same_exactly (Callee (row_from f.params) f.outcome) (type_of c.args.ty.now))

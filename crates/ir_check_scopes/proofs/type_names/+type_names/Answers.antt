use Rattle.std.proofs.Common.{◌≡◌, subst, sym, ◌∙◌, ap, map, refl, arith, List, rules}
use Rattle.ir_model.specs.declared.types.Ty as code
use Rattle.ir_model.specs.Types.{Callee, type_of, types_from, boxed_result_of}
use Rattle.ir_model.specs.Typing.{row_checks, type_checks, result_checks, first_failing}
use Rattle.ir_check_scopes.specs.Found.{Refused}
use Rattle.ir_check_scopes.specs.Spots.{place_of}
use Rattle.ir_model.proofs.SameTypes.{rows}
use Rattle.ir_check_scopes.proofs.Order.{first_told, stop_at, go_on, refused_left, refused_right, first_append}
use Rattle.ir_check_scopes.proofs.type_names.+type_names.Goals as goal

pub row_names-returns-in_err-type_names : goal.row_names-returns-in_err-type_names
row_names-returns-in_err-type_names t c =
    first_told (row_checks c.args.declared.now (place_of c.args.spot) (types_from (map type_of c.args.types.now))) c.from_residual.result c.in_err-type_names.field-0.0 c.from_residual.ensures.1
    (stop_at (λ (ts : List code.Ty). row_checks c.args.declared.now (place_of c.args.spot) (types_from (map type_of ts)))
    (λ (ts : List code.Ty). row_checks c.args.declared.now (place_of c.args.spot) (types_from (map type_of ts)))
    (row_checks c.args.declared.now (place_of c.args.spot) (types_from (map type_of c.args.types.now))) (c.args.types.now) c.loop-ty.ty-index c.ty-item.result (type_checks c.args.declared.now c.args.declared.now (place_of c.args.spot) (type_of c.ty-item.result)) c.in_err-type_names.field-0.0
    (omega arith) c.ty-item.is (λ r. refl) c.loop-ty.invariant c.in_err-type_names.ensures)

pub row_names-loop-ty-preserved : goal.row_names-loop-ty-preserved
row_names-loop-ty-preserved t c =
    (go_on (λ (ts : List code.Ty). row_checks c.args.declared.now (place_of c.args.spot) (types_from (map type_of ts)))
    (λ (ts : List code.Ty). row_checks c.args.declared.now (place_of c.args.spot) (types_from (map type_of ts)))
    (row_checks c.args.declared.now (place_of c.args.spot) (types_from (map type_of c.args.types.now))) (c.args.types.now) c.loop-ty.ty-index c.ty-item.result (type_checks c.args.declared.now c.args.declared.now (place_of c.args.spot) (type_of c.ty-item.result))
    (omega arith) c.ty-item.is (λ r. refl) c.loop-ty.invariant c.in_ok-type_names.ensures)

pub type_names-returns-in_err-row_names-in-Callee :
    goal.type_names-returns-in_err-row_names-in-Callee
type_names-returns-in_err-row_names-in-Callee t c =
    let e : type_of c.args.ty.now ≡ Callee (types_from (map type_of c.in-Callee.signature.params)) (boxed_result_of c.in-Callee.signature.result) = search (rules, code.the_lemmas, rows) in
    first_told (type_checks c.args.declared.now c.args.earlier.now (place_of c.args.spot) (type_of c.args.ty.now)) c.from_residual.result c.in_err-row_names-in-Callee.field-0.0 c.from_residual.ensures.1
    (subst (λ u. Refused (type_checks c.args.declared.now c.args.earlier.now (place_of c.args.spot) u) c.in_err-row_names-in-Callee.field-0.0) (sym e)
    (refused_left (row_checks c.args.declared.now (place_of c.args.spot) (types_from (map type_of c.in-Callee.signature.params))) (result_checks c.args.declared.now (place_of c.args.spot) (boxed_result_of c.in-Callee.signature.result)) c.in_err-row_names-in-Callee.field-0.0 (rw c.as_slice.ensures at c.in_err-row_names-in-Callee.ensures)))

pub type_names-returns-in_err-result_names-in-Callee :
    goal.type_names-returns-in_err-result_names-in-Callee
type_names-returns-in_err-result_names-in-Callee t c =
    let e : type_of c.args.ty.now ≡ Callee (types_from (map type_of c.in-Callee.signature.params)) (boxed_result_of c.in-Callee.signature.result) = search (rules, code.the_lemmas, rows) in
    first_told (type_checks c.args.declared.now c.args.earlier.now (place_of c.args.spot) (type_of c.args.ty.now)) c.from_residual-in_err-result_names-in-Callee.result c.in_err-result_names-in-Callee.field-0.0 c.from_residual-in_err-result_names-in-Callee.ensures.1
    (subst (λ u. Refused (type_checks c.args.declared.now c.args.earlier.now (place_of c.args.spot) u) c.in_err-result_names-in-Callee.field-0.0) (sym e)
    (refused_right (row_checks c.args.declared.now (place_of c.args.spot) (types_from (map type_of c.in-Callee.signature.params))) (result_checks c.args.declared.now (place_of c.args.spot) (boxed_result_of c.in-Callee.signature.result)) c.in_err-result_names-in-Callee.field-0.0 (rw c.as_slice.ensures at c.in_ok-row_names-in-Callee.ensures) c.in_err-result_names-in-Callee.ensures))

pub type_names-returns-in_ok-result_names-in-Callee :
    goal.type_names-returns-in_ok-result_names-in-Callee
type_names-returns-in_ok-result_names-in-Callee t c =
    let e : type_of c.args.ty.now ≡ Callee (types_from (map type_of c.in-Callee.signature.params)) (boxed_result_of c.in-Callee.signature.result) = search (rules, code.the_lemmas, rows) in
    ap (λ u. first_failing (type_checks c.args.declared.now c.args.earlier.now (place_of c.args.spot) u)) e
    ∙ (first_append (row_checks c.args.declared.now (place_of c.args.spot) (types_from (map type_of c.in-Callee.signature.params))) (result_checks c.args.declared.now (place_of c.args.spot) (boxed_result_of c.in-Callee.signature.result)) (rw c.as_slice.ensures at c.in_ok-row_names-in-Callee.ensures) ∙ c.in_ok-result_names-in-Callee.ensures)

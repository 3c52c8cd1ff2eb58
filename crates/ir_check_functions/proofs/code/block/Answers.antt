use Rattle.std.proofs.Common.{◌≡◌, ◌∙◌, ap, refl, suc, ◌+◌, ◌<◌, ◌≤◌, List, length, drop, arith}
use Rattle.std.proofs.lemmas.List.{drop_all}
use Rattle.ir_model.specs.declared.check.CheckPlace.TheVariants as place
use Rattle.ir_model.specs.declared.firmware.Inst.{Inst}
use Rattle.ir_model.specs.Plain.{func_of, firmware_of}
use Rattle.ir_model.specs.Typing.{code_checks, first_failing}
use Rattle.ir_check_functions.specs.FunctionParts.{inst_check, term_check}
use Rattle.ir_check_scopes.proofs.Order.{first_told, stop_at, go_on, refused_as}
use Rattle.ir_check_functions.proofs.code.block.Goals as goal

pub returns-in_err-inst : goal.returns-in_err-inst
returns-in_err-inst c =
    first_told (code_checks (firmware_of c.args.scope.now.firmware.now) (func_of c.args.func.now.func.now) c.args.block.now.label 0 c.args.block.now.insts c.args.block.now.term) c.from_residual.result c.in_err-inst.field-0.0 c.from_residual.ensures.1
    (stop_at (λ (is : List Inst). code_checks (firmware_of c.args.scope.now.firmware.now) (func_of c.args.func.now.func.now) c.args.block.now.label c.loop-i.i is c.args.block.now.term)
    (λ (is : List Inst). code_checks (firmware_of c.args.scope.now.firmware.now) (func_of c.args.func.now.func.now) c.args.block.now.label (suc c.loop-i.i) is c.args.block.now.term)
    (code_checks (firmware_of c.args.scope.now.firmware.now) (func_of c.args.func.now.func.now) c.args.block.now.label 0 c.args.block.now.insts c.args.block.now.term) (c.args.block.now.insts) c.loop-i.i c.index-insts-i.result (inst_check (firmware_of c.args.scope.now.firmware.now) (func_of c.args.func.now.func.now) (place.Inst c.args.func.now.func.now.name c.args.block.now.label c.loop-i.i) c.index-insts-i.result) c.in_err-inst.field-0.0
    (let l : c.loop-i.i < length c.as_slice-insts.result.now = omega arith in rw c.as_slice-insts.ensures at l) (rw c.as_slice-insts.ensures at c.index-insts-i.is) (λ r. refl) c.loop-i.invariant c.in_err-inst.ensures)

pub loop-i-preserved : goal.loop-i-preserved
loop-i-preserved c =
    let next : suc c.loop-i.i ≡ c.loop-i.i + 1 = omega arith in
    (go_on (λ (is : List Inst). code_checks (firmware_of c.args.scope.now.firmware.now) (func_of c.args.func.now.func.now) c.args.block.now.label c.loop-i.i is c.args.block.now.term)
    (λ (is : List Inst). code_checks (firmware_of c.args.scope.now.firmware.now) (func_of c.args.func.now.func.now) c.args.block.now.label (suc c.loop-i.i) is c.args.block.now.term)
    (code_checks (firmware_of c.args.scope.now.firmware.now) (func_of c.args.func.now.func.now) c.args.block.now.label 0 c.args.block.now.insts c.args.block.now.term) (c.args.block.now.insts) c.loop-i.i c.index-insts-i.result (inst_check (firmware_of c.args.scope.now.firmware.now) (func_of c.args.func.now.func.now) (place.Inst c.args.func.now.func.now.name c.args.block.now.label c.loop-i.i) c.index-insts-i.result)
    (let l : c.loop-i.i < length c.as_slice-insts.result.now = omega arith in rw c.as_slice-insts.ensures at l) (rw c.as_slice-insts.ensures at c.index-insts-i.is) (λ r. refl) c.loop-i.invariant c.in_ok-inst.ensures)
    ∙ ap (λ k. first_failing (code_checks (firmware_of c.args.scope.now.firmware.now) (func_of c.args.func.now.func.now) c.args.block.now.label k (drop (c.loop-i.i + 1) c.args.block.now.insts) c.args.block.now.term)) next

pub returns-in_err-term : goal.returns-in_err-term
returns-in_err-term c =
    let past : length c.as_slice-insts.result.now ≤ c.loop-i.i = omega arith in
    let last : c.loop-i.i ≡ length c.as_slice-insts.result.now = omega arith in
    first_told (code_checks (firmware_of c.args.scope.now.firmware.now) (func_of c.args.func.now.func.now) c.args.block.now.label 0 c.args.block.now.insts c.args.block.now.term) c.from_residual-in_err-term.result c.in_err-term.field-0.0 c.from_residual-in_err-term.ensures.1
    (refused_as (code_checks (firmware_of c.args.scope.now.firmware.now) (func_of c.args.func.now.func.now) c.args.block.now.label 0 c.args.block.now.insts c.args.block.now.term) (term_check (func_of c.args.func.now.func.now) (place.Inst c.args.func.now.func.now.name c.args.block.now.label (length c.as_slice-insts.result.now)) c.args.block.now.term) c.in_err-term.field-0.0
    (c.loop-i.invariant ∙ (ap (λ is. first_failing (code_checks (firmware_of c.args.scope.now.firmware.now) (func_of c.args.func.now.func.now) c.args.block.now.label c.loop-i.i is c.args.block.now.term)) (drop_all c.loop-i.i c.args.block.now.insts (rw c.as_slice-insts.ensures at past))
    ∙ ap (λ k. first_failing (term_check (func_of c.args.func.now.func.now) (place.Inst c.args.func.now.func.now.name c.args.block.now.label k) c.args.block.now.term)) last)) c.in_err-term.ensures)

use Rattle.std.proofs.Common.{◌≡◌, ◌∙◌, ap, sym, subst, map, ◌+◌, get_or, arith, length, false, ◌<◌, ◌-◌, ◌≤◌}
use Rattle.ir_model.specs.Types.{type_of, U32}
use Rattle.ir_model.specs.Plain.{func_of, binding_of, names_of, types_of, regs_of}
use Rattle.base_names.specs.Numbers.{has, number_of}
use Rattle.ir_check_scopes.proofs.NamedTypes.{counted, absent, param_at, reg_at}
use Rattle.ir_check_scopes.proofs.lookup.register_type.Goals as goal

pub returns-in_default : goal.returns-in_default
returns-in_default c =
    ap type_of c.args.scope.now.number_is_word
    ∙ sym (absent (regs_of (func_of c.args.scope.now.func.now)) c.args.name.now
    (subst (λ ns. has ns c.args.name.now ≡ false) c.args.scope.now.all_registers c.in_default.ensures))

pub returns-then-place-params : goal.returns-then-place-params
returns-then-place-params c =
    let k : number_of (names_of (regs_of (func_of c.args.scope.now.func.now))) c.args.name.now ≡ c.in-Some.place =
    sym (c.in-Some.ensures.1.0 ∙ ap (λ ns. number_of ns c.args.name.now) c.args.scope.now.all_registers) in
    let l : c.in-Some.place < length c.args.scope.now.func.now.params = subst (λ xs. c.in-Some.place < length xs) c.as_slice-params.ensures c.if-place-params.true in
    sym (ap (λ j. get_or (types_of (regs_of (func_of c.args.scope.now.func.now))) j U32) k
    ∙ (param_at c.args.scope.now.func.now.params (map binding_of c.args.scope.now.func.now.regs) c.in-Some.place c.index-params-place.result l
    ∙ ap (λ xs. type_of (get_or xs c.in-Some.place c.index-params-place.result).ty) (sym c.as_slice-params.ensures)))

pub returns : goal.returns
returns c =
    let k : number_of (names_of (regs_of (func_of c.args.scope.now.func.now))) c.args.name.now ≡ c.in-Some.place =
    sym (c.in-Some.ensures.1.0 ∙ ap (λ ns. number_of ns c.args.name.now) c.args.scope.now.all_registers) in
    let l : length c.args.scope.now.func.now.params ≤ c.in-Some.place = subst (λ xs. length xs ≤ c.in-Some.place) c.as_slice-params.ensures c.if-place-params.false in
    let within : c.in-Some.place < length c.args.scope.now.registers = c.in-Some.ensures.1.1 in
    let count : length c.args.scope.now.registers ≡ length c.args.scope.now.func.now.params + length c.args.scope.now.func.now.regs =
    ap length c.args.scope.now.all_registers ∙ counted c.args.scope.now.func.now.params c.args.scope.now.func.now.regs in
    let m : c.in-Some.place - length c.args.scope.now.func.now.params < length c.args.scope.now.func.now.regs = omega arith in
    sym (ap (λ j. get_or (types_of (regs_of (func_of c.args.scope.now.func.now))) j U32) k
    ∙ (reg_at c.args.scope.now.func.now.params c.args.scope.now.func.now.regs c.in-Some.place c.index-regs-place.result l m
    ∙ (ap (λ xs. type_of (get_or xs (c.in-Some.place - length c.args.scope.now.func.now.params) c.index-regs-place.result).ty) (sym c.as_slice-regs.ensures)
    ∙ ap (λ xs. type_of (get_or c.as_slice-regs.result.now (c.in-Some.place - length xs) c.index-regs-place.result).ty) (sym c.as_slice-params.ensures))))

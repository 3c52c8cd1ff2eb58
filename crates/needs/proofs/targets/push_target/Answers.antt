use Rattle.std.proofs.Common.{◌<◌, length, sym, ap, subst, ◌∙◌}
use Rattle.std.proofs.lemmas.Bool.{false≢true}
use Rattle.ir_model.specs.Types.{Callee, type_of}
use Rattle.ir_model.specs.Objects.{object_by}
use Rattle.ir_program.specs.Parts.{routine_of}
use Rattle.ir_program.specs.Seen.{program_of, known_of}
use Rattle.needs.proofs.Funcs.{func_read}
use Rattle.needs.proofs.FunctionTargets.{target_pushed, target_left}
use Rattle.needs.proofs.targets.push_target.Goals as goal

pub bounds-as_slice-func : goal.bounds-as_slice-func
bounds-as_slice-func c = subst (λ l. c.in-Func.func < length l) (sym c.as_slice.ensures) (c.requires c.in-Func.func (ap object_by c.in-Func.is))

pub bounds-as_slice-func-in-Func : goal.bounds-as_slice-func-in-Func
bounds-as_slice-func-in-Func c = subst (λ l. c.in-Func.func < length l) (sym c.as_slice.ensures) (c.requires c.in-Func.func (ap object_by c.in-Func.is))

pub returns-in_ok-push-in-Func : goal.returns-in_ok-push-in-Func
returns-in_ok-push-in-Func c = λ h.
    let g = c.in-Func.func in
    let e = func_read c.args.program.now c.as_slice.result.now g c.index-as_slice-func.result c.as_slice.ensures c.index-as_slice-func.is (c.requires g (ap object_by c.in-Func.is)) ∙ ap (routine_of (known_of c.args.program.now)) c.index-as_slice-func.is in
    target_pushed (program_of c.args.program.now) (type_of c.args.ty.now) c.args.targets.now.items c.push.new.self.items c.args.object g h c.in-Func.is
    (ap (λ f. Callee f.params f.outcome) e ∙ c.has_type.ensures.0 c.if-has_type.true) c.in_ok-push-in-Func.ensures.items

pub returns-else-has_type : goal.returns-else-has_type
returns-else-has_type c = λ h.
    let g = c.in-Func.func in
    let e = func_read c.args.program.now c.as_slice.result.now g c.index-as_slice-func.result c.as_slice.ensures c.index-as_slice-func.is (c.requires g (ap object_by c.in-Func.is)) ∙ ap (routine_of (known_of c.args.program.now)) c.index-as_slice-func.is in
    target_left (program_of c.args.program.now) (type_of c.args.ty.now) c.args.targets.now.items c.args.object g h c.in-Func.is
    (λ s. false≢true (sym c.if-has_type.false ∙ c.has_type.ensures.1 (sym (ap (λ f. Callee f.params f.outcome) e) ∙ s)))

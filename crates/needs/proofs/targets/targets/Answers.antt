use Rattle.std.proofs.Common.{◌≡◌, ◌<◌, length, get_or, true, ap, subst, ◌∙◌, arith}
use Rattle.std.specs.Prelude.{Contains}
use Rattle.std.specs.Ordering.{nat_cmp}
use Rattle.std.proofs.lemmas.List.{get_or_default, length-map}
use Rattle.std.proofs.lemmas.List.Elements.{Contains-get_or}
use Rattle.std.proofs.lemmas.Result.{IfOk-weaker}
use Rattle.ir_model.specs.declared.object.ObjId.TheVariants.{Global}
use Rattle.ir_model.specs.Types.{type_of}
use Rattle.ir_program.specs.Parts.{routine_of}
use Rattle.ir_program.specs.Seen.{program_of, known_of}
use Rattle.ir_laws.specs.Sets.{Register}
use Rattle.need_sets.specs.Sets.{sets_of}
use Rattle.needs.specs.Accesses.{IsTarget}
use Rattle.needs.specs.Targets.{IsFunctionOf}
use Rattle.need_lists.proofs.Any.{any_step, any_whole}
use Rattle.need_lists.proofs.Exact.{exactly_by}
use Rattle.needs.proofs.Funcs.{func_read}
use Rattle.needs.proofs.FunctionTargets.{type_read, target_is}
use Rattle.needs.proofs.targets.targets.Goals as goal

pub push_target-requires : goal.push_target-requires
push_target-requires c = λ h e.
    let os = c.of-objects.result.now in
    let o = get_or os c.loop-i.i (Global 0) in
    subst (λ n. h < n) (length-map c.args.program.now.funcs (routine_of (known_of c.args.program.now))) (c.requires.there (Register c.args.func c.args.register) h
    (subst (λ x. sets_of c.args.pts.now (Register c.args.func c.args.register) x ≡ true) e (c.of-objects.ensures.each o (Contains-get_or os c.loop-i.i (Global 0) (omega arith)))))

pub loop-i-preserved : goal.loop-i-preserved
loop-i-preserved c = λ h.
    let os = c.of-objects.result.now in
    let i = c.loop-i.i in
    let below : i < length os = omega arith in
    any_step (IsFunctionOf (program_of c.args.program.now) (type_of c.index-as_slice-register.result.now) h) (Contains c.loop-i.targets.items h) (Contains c.push_target.new.targets.items h)
    os i (get_or os i (Global 0)) below (get_or_default os i (Global 0) (get_or os i (Global 0)) below) (c.loop-i.invariant h) (c.in_ok-push_target.ensures h)

pub returns : goal.returns
returns c =
    let q = c.args.program.now in
    let p = program_of q in
    let S = sets_of c.args.pts.now in
    let t = type_of c.index-as_slice-register.result.now in
    let os = c.of-objects.result.now in
    let r = get_or c.as_slice.result.now c.args.func c.index-as_slice-func.result in
    let e = func_read q c.as_slice.result.now c.args.func c.index-as_slice-func.result c.as_slice.ensures c.index-as_slice-func.is c.requires.func ∙ ap (routine_of (known_of q)) c.index-as_slice-func.is in
    let l : c.args.register < length r.registers = subst (λ n. c.args.register < n) (ap (λ g. length g.regs) e ∙ length-map r.registers _) c.requires.register in
    let y = type_read q c.args.func r c.as_slice-2.result.now c.args.register c.index-as_slice-register.result e c.as_slice-2.ensures c.index-as_slice-register.is l in
    IfOk-weaker c.each_once.result _ _
    (λ ts x. exactly_by nat_cmp (Contains c.loop-i.targets.items) (IsTarget p S c.args.func c.args.register) ts.items
    (λ h. target_is p S c.args.func c.args.register t os y c.of-objects.ensures (Contains c.loop-i.targets.items h) h
    (any_whole (IsFunctionOf p t h) (Contains c.loop-i.targets.items h) os c.loop-i.i (omega arith) (c.loop-i.invariant h))) x)
    c.each_once.ensures

use Rattle.std.proofs.Common.{sym, subst}
use Rattle.std.proofs.lemmas.Result.{err_from_is_err_and}
use Rattle.ir_program.specs.Seen.{program_of}
use Rattle.plan.specs.Planned.{IsPlannedFor}
use Rattle.plan.specs.Refusals.{IsPlanningRefusal}
use Rattle.plan_firmwares.proofs.Analysing.{plan_of_analysis, refusal_of_analysis}
use Rattle.plan_firmwares.proofs.planning.planned_by.Goals as goal

pub returns-in_err-made-clause-refused : goal.returns-in_err-made-clause-refused
returns-in_err-made-clause-refused c =
    let a = c.args.analysis.now in
    let b = c.args.board.now in
    let groups = c.in_ok-groups.groups in
    let x = err_from_is_err_and c.from_residual-in_err-made.result c.from_residual-in_err-made.ensures.1 in
    rw x.1 (refusal_of_analysis a b groups c.in_ok-groups.ensures x.0
    (subst (IsPlanningRefusal (program_of a.program) a.needs groups b) (sym x.2) c.in_err-made.ensures.refused))

pub returns-clause-ok : goal.returns-clause-ok
returns-clause-ok c =
    plan_of_analysis c.args.analysis.now c.args.board.now c.in_ok-groups.groups c.in_ok-groups.ensures c.in_ok-made.made c.in_ok-made.ensures.ok

pub returns-clause-planned : goal.returns-clause-planned
returns-clause-planned c =
    let a = c.args.analysis.now in
    subst (λ g. IsPlannedFor (program_of a.program) a.needs g c.args.board.now c.in_ok-made.made) c.in_ok-groups.ensures c.in_ok-made.ensures.ok

pub returns-in_err-made-clause-why : goal.returns-in_err-made-clause-why
returns-in_err-made-clause-why c =
    let a = c.args.analysis.now in
    let b = c.args.board.now in
    let groups = c.in_ok-groups.groups in
    let x = err_from_is_err_and c.from_residual-in_err-made.result c.from_residual-in_err-made.ensures.1 in
    rw x.1 (subst (λ g. IsPlanningRefusal (program_of a.program) a.needs g b x.0) c.in_ok-groups.ensures
    (subst (IsPlanningRefusal (program_of a.program) a.needs groups b) (sym x.2) c.in_err-made.ensures.refused))

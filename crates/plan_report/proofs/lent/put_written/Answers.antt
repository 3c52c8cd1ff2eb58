use Rattle.std.proofs.Common.{ℕ, ◌<◌, Bool, take, length, get_or, sym, ap, subst, codes, ◌∙◌}
use Rattle.ir_model.specs.declared.object.ObjId.TheVariants.{Local}
use Rattle.plan_model.specs.Groups.{writes}
use Rattle.plan_report.specs.Subjects.{subject_of}
use Rattle.plan_report.specs.CompartmentLines.{lent_line}
use Rattle.plan_report.proofs.Growing.{item_more, put_kept, put_dropped}
use Rattle.plan_report.proofs.lent.put_written.Goals as goal
use Rattle.plan_report.proofs.lent.put_written.Goals.{then-may_write+in_ok-put_lent, else-may_write}

pub loop-i-preserved : goal.loop-i-preserved
loop-i-preserved c =
    let s = subject_of c.args.subject.now in
    let xs = c.args.subject.now.needs.now.lendable in
    let i : ℕ = c.loop-i.i in
    let test : ℕ × ℕ → Bool = λ x. writes c.args.subject.now.needs.now c.args.subject.now.graph.now.groups c.args.compartment (Local x.0 x.1) in
    elim c.if-may_write.branch [
      | then-may_write+in_ok-put_lent w ↦ put_kept (lent_line s (codes "lend ")) test (take i xs) _ c.local_at-local.result c.args.text.now c.loop-i.text _ (item_more xs i c.local_at-local.result (0, 0) (subst (λ ys. i < length ys) c.as_slice-locals.ensures c.loop-i-test.true) (c.local_at-local.ensures ∙ ap (λ ys. get_or ys i (0, 0)) c.as_slice-locals.ensures)) (sym c.may_write.ensures ∙ w.if-may_write.true) c.loop-i.invariant (w.text-is ∙ w.in_ok-put_lent.ensures)
      | else-may_write w ↦ put_dropped (lent_line s (codes "lend ")) test (take i xs) _ c.local_at-local.result c.args.text.now c.loop-i.text _ (item_more xs i c.local_at-local.result (0, 0) (subst (λ ys. i < length ys) c.as_slice-locals.ensures c.loop-i-test.true) (c.local_at-local.ensures ∙ ap (λ ys. get_or ys i (0, 0)) c.as_slice-locals.ensures)) (sym c.may_write.ensures ∙ w.if-may_write.false) c.loop-i.invariant w.text-is
    ]

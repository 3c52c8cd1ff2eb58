use Rattle.std.proofs.Common.{ℕ, ◌++◌, get_or, codes, ap, sym, ◌∙◌}
use Rattle.plan_model.specs.Lists.{numbers_below}
use Rattle.plan_report.specs.Subjects.{subject_of}
use Rattle.plan_report.specs.CompartmentLines.{lent_line, is_read_alone}
use Rattle.plan_report.proofs.Growing.{made_kept, made_dropped}
use Rattle.plan_report.proofs.lent.put_read.Goals as goal
use Rattle.plan_report.proofs.lent.put_read.Goals.{then-is_read_alone+in_ok-put_lent, else-is_read_alone}
use Rattle.plan_model.proofs.Numbers.{numbers_more}

pub loop-i-preserved : goal.loop-i-preserved
loop-i-preserved c =
    let s = subject_of c.args.subject.now in
    let k : ℕ = c.loop-i.i in
    let at : ℕ → ℕ × ℕ = λ n. get_or c.args.subject.now.needs.now.lendable n (0, 0) in
    elim c.if-is_read_alone.branch [
      | then-is_read_alone+in_ok-put_lent w ↦ made_kept (lent_line s (codes "lend-read ")) at (is_read_alone s c.args.compartment) (numbers_below k) _ k c.args.text.now c.loop-i.text _ (numbers_more k) (sym c.is_read_alone.ensures ∙ w.if-is_read_alone.true) c.loop-i.invariant
          (w.text-is ∙ (w.in_ok-put_lent.ensures ∙ (ap (λ (x : ℕ × ℕ). c.loop-i.text ++ lent_line s (codes "lend-read ") x) w.local_at.ensures ∙ ap (λ xs. c.loop-i.text ++ lent_line s (codes "lend-read ") (get_or xs k (0, 0))) c.as_slice-locals.ensures)))
      | else-is_read_alone w ↦ made_dropped (lent_line s (codes "lend-read ")) at (is_read_alone s c.args.compartment) (numbers_below k) _ k c.args.text.now c.loop-i.text _ (numbers_more k) (sym c.is_read_alone.ensures ∙ w.if-is_read_alone.false) c.loop-i.invariant w.text-is
    ]

use Rattle.std.proofs.Common.{ℕ, ◌+◌, ◌++◌, ap, ◌∙◌}
use Rattle.plan_model.specs.declared.graph.Cover.{Cover}
use Rattle.plan_model.specs.Covers.{cover_at}
use Rattle.plan_model.specs.Lists.{numbers_below}
use Rattle.plan_report.specs.Subjects.{subject_of}
use Rattle.plan_report.specs.CompartmentLines.{cover_line, covers}
use Rattle.plan_report.proofs.Growing.{put_each}
use Rattle.plan_report.proofs.slots.put_covers.Goals as goal
use Rattle.plan_model.proofs.Numbers.{numbers_more}

pub loop-i-preserved : goal.loop-i-preserved
loop-i-preserved c =
    let s = subject_of c.args.subject.now in
    let i : ℕ = c.loop-i.i in
    put_each (λ k. cover_line s (c.args.first + k) (cover_at (covers s c.args.compartment) k)) (numbers_below i) _ i c.args.text.now c.loop-i.text _ (numbers_more i) c.loop-i.invariant
    (c.in_ok-put_cover.ensures ∙ ap (λ (d : Cover). c.loop-i.text ++ cover_line s (c.args.first + i) d) (c.cover_at.ensures ∙ ap (λ ds. cover_at ds i) c.covers_of-covers.ensures))

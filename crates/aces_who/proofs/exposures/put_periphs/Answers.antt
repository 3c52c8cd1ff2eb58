use Rattle.std.proofs.Common.{ℕ, Bool, ◌&&◌, not, sym, ◌∙◌}
use Rattle.ir_program.specs.Seen.{program_of}
use Rattle.plan_model.specs.Groups.{uses}
use Rattle.plan_model.specs.Lists.{numbers_below}
use Rattle.plan_model.specs.Permission.{is_covered}
use Rattle.plan_model.proofs.Numbers.{numbers_more}
use Rattle.plan_report.specs.Subjects.{subject_of}
use Rattle.plan_report.proofs.Growing.{put_kept, put_dropped}
use Rattle.aces_who.specs.WhoLines.{exposed_periph_line}
use Rattle.aces_who.proofs.exposures.put_periphs.Goals as goal
use Rattle.aces_who.proofs.exposures.put_periphs.Goals.{then-is_unused+in_ok-put_periph, else-is_unused}

pub loop-periph-preserved : goal.loop-periph-preserved
loop-periph-preserved c =
    let s = c.args.subject.now in
    let k : ℕ = c.loop-periph.periph in
    let test : ℕ → Bool = λ q. is_covered (program_of s.program.now) s.graph.now c.args.compartment q && not (uses s.needs.now s.graph.now.groups c.args.compartment q) in
    let line = exposed_periph_line (subject_of s) c.args.compartment in
    elim c.if-is_unused.branch [
      | then-is_unused+in_ok-put_periph w ↦ put_kept line test (numbers_below k) _ k c.args.text.now c.loop-periph.text _ (numbers_more k) (sym c.is_unused.ensures ∙ w.if-is_unused.true) c.loop-periph.invariant (w.text-is ∙ w.in_ok-put_periph.ensures)
      | else-is_unused w ↦ put_dropped line test (numbers_below k) _ k c.args.text.now c.loop-periph.text _ (numbers_more k) (sym c.is_unused.ensures ∙ w.if-is_unused.false) c.loop-periph.invariant w.text-is
    ]

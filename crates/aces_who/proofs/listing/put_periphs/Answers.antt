use Rattle.plan_model.specs.Lists.{numbers_below}
use Rattle.plan_model.proofs.Numbers.{numbers_more}
use Rattle.plan_report.specs.Subjects.{subject_of}
use Rattle.plan_report.proofs.Growing.{put_each}
use Rattle.aces_who.specs.WhoLines.{periph_line}
use Rattle.aces_who.proofs.listing.put_periphs.Goals as goal

pub loop-periph-preserved : goal.loop-periph-preserved
loop-periph-preserved c =
    put_each (periph_line (subject_of c.args.subject.now)) (numbers_below c.loop-periph.periph) _ c.loop-periph.periph c.args.text.now c.loop-periph.text _ (numbers_more c.loop-periph.periph) c.loop-periph.invariant c.in_ok-put_periph.ensures

use Rattle.plan_model.specs.Lists.{numbers_below}
use Rattle.plan_model.proofs.Numbers.{numbers_more}
use Rattle.plan_report.specs.Subjects.{subject_of}
use Rattle.plan_report.proofs.Growing.{put_each}
use Rattle.aces_who.specs.WhoLines.{global_line}
use Rattle.aces_who.proofs.listing.put_globals.Goals as goal

pub loop-global-preserved : goal.loop-global-preserved
loop-global-preserved c =
    put_each (global_line (subject_of c.args.subject.now)) (numbers_below c.loop-global.global) _ c.loop-global.global c.args.text.now c.loop-global.text _ (numbers_more c.loop-global.global) c.loop-global.invariant c.in_ok-put_global.ensures

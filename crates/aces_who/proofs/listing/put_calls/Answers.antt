use Rattle.plan_model.specs.Lists.{numbers_below}
use Rattle.plan_model.proofs.Numbers.{numbers_more}
use Rattle.plan_report.specs.Subjects.{subject_of}
use Rattle.plan_report.proofs.Growing.{put_each}
use Rattle.aces_who.specs.WhoLines.{caller_lines}
use Rattle.aces_who.proofs.listing.put_calls.Goals as goal

pub loop-caller-preserved : goal.loop-caller-preserved
loop-caller-preserved c =
    put_each (caller_lines (subject_of c.args.subject.now)) (numbers_below c.loop-caller.caller) _ c.loop-caller.caller c.args.text.now c.loop-caller.text _ (numbers_more c.loop-caller.caller) c.loop-caller.invariant c.in_ok-put_caller.ensures

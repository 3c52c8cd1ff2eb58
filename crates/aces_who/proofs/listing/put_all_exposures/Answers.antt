use Rattle.plan_model.specs.Lists.{numbers_below}
use Rattle.plan_model.proofs.Numbers.{numbers_more}
use Rattle.plan_report.specs.Subjects.{subject_of}
use Rattle.plan_report.proofs.Growing.{put_each}
use Rattle.aces_who.specs.WhoLines.{exposure_lines}
use Rattle.aces_who.proofs.listing.put_all_exposures.Goals as goal

pub loop-compartment-preserved : goal.loop-compartment-preserved
loop-compartment-preserved c =
    put_each (exposure_lines (subject_of c.args.subject.now)) (numbers_below c.loop-compartment.compartment) _ c.loop-compartment.compartment c.args.text.now c.loop-compartment.text _ (numbers_more c.loop-compartment.compartment) c.loop-compartment.invariant c.in_ok-put_exposures.ensures

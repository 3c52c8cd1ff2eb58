use Rattle.plan_model.specs.Lists.{numbers_below}
use Rattle.plan_report.specs.Subjects.{subject_of}
use Rattle.plan_report.specs.CompartmentLines.{compartment_lines}
use Rattle.plan_report.proofs.Growing.{put_each}
use Rattle.plan_report.proofs.listing.put_compartments.Goals as goal
use Rattle.plan_model.proofs.Numbers.{numbers_more}

pub loop-compartment-preserved : goal.loop-compartment-preserved
loop-compartment-preserved c =
    put_each (compartment_lines (subject_of c.args.subject.now)) (numbers_below c.loop-compartment.compartment) _ c.loop-compartment.compartment c.args.text.now c.loop-compartment.text _ (numbers_more c.loop-compartment.compartment) c.loop-compartment.invariant c.in_ok-put_compartment.ensures

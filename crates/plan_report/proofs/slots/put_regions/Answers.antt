use Rattle.std.proofs.Common.{ℕ, ◌+◌, ◌<◌, get_or, length, subst, sym}
use Rattle.plan_model.specs.Lists.{numbers_below}
use Rattle.plan_model.specs.Regions.{is_user, region_at}
use Rattle.plan_report.specs.Subjects.{subject_of}
use Rattle.plan_report.specs.CompartmentLines.{region_line}
use Rattle.plan_report.proofs.Growing.{put_each}
use Rattle.plan_report.proofs.Named.{used_below}
use Rattle.plan_report.proofs.slots.put_regions.Goals as goal
use Rattle.plan_model.proofs.Numbers.{numbers_more}

pub put_region-requires : goal.put_region-requires
put_region-requires c =
    let rs = c.args.subject.now.graph.now.regions in
    let i : ℕ = c.loop-i.i in
    subst (λ us. get_or us i 0 < length rs) (sym c.requires)
    (used_below (λ r. is_user c.args.compartment (region_at rs r)) (length rs) i (subst (λ us. i < length us) c.requires c.loop-i-test.true))

pub loop-i-preserved : goal.loop-i-preserved
loop-i-preserved c =
    let s = subject_of c.args.subject.now in
    put_each (λ k. region_line s c.args.compartment (4 + k) (get_or c.args.used.now k 0)) (numbers_below c.loop-i.i) _ c.loop-i.i c.args.text.now c.loop-i.text _ (numbers_more c.loop-i.i) c.loop-i.invariant c.in_ok-put_region.ensures

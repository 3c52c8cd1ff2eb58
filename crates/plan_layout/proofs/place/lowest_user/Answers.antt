use Rattle.std.proofs.Common.{ap, ◌∙◌}
use Rattle.plan_layout.specs.Lowest.{lesser, least}
use Rattle.plan_layout.proofs.Smallest.{lowest_is}
use Rattle.plan_layout.proofs.place.lowest_user.Goals as goal

pub returns : goal.returns
returns c =
    c.lesser.ensures
    ∙ (ap (λ o. lesser o c.least-2.result) (c.least.ensures ∙ ap least c.as_slice.ensures)
    ∙ (ap (lesser (least c.args.region.now.writers)) (c.least-2.ensures ∙ ap least c.as_slice-2.ensures) ∙ lowest_is c.args.region.now))

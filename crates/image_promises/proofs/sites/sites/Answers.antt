use Rattle.image_promises.proofs.SitesPass.{SiteLaws, sites_pass}
use Rattle.image_promises.proofs.sites.sites.Goals as goal

pub returns : goal.returns
returns c =
    let law : SiteLaws = record { placed = c.code.ensures; code = c.compartments.ensures; counts = c.counts.ensures; typing = c.places.ensures } in
    sites_pass law

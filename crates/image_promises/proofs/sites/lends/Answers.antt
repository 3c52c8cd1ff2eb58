use Rattle.image_promises.proofs.LendsPass.{lends_pass}
use Rattle.image_promises.proofs.sites.lends.Goals as goal

pub returns : goal.returns
returns c = lends_pass c.sizes.ensures

use Rattle.image_promises.proofs.Counts.{answered_yes}
use Rattle.image_promises.proofs.audits.answers.Goals as goal

pub returns : goal.returns
returns c = answered_yes c.sound.ensures c.answers.ensures.yes

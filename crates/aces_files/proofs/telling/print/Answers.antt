use Rattle.std.proofs.Common.{refl}
use Rattle.aces_files.proofs.telling.print.Goals as goal

pub returns-in-Ok : goal.returns-in-Ok
returns-in-Ok g c = (refl, (c.in-Ok.ensures.counts.only_failed, c.in-Ok.ensures.bytes))

pub returns-in-Err : goal.returns-in-Err
returns-in-Err g c = (c.in-Err.ensures.cause, λ t. c.in-Err.ensures.failed)

-- All bytes of an aligned access pass the same tests of ranges.
use Rattle.machine_bus.proofs.Placed.{place_further, location-nowhere}
use Rattle.machine_bus.proofs.laws.accesses.Goals as goal

pub returns-clause-bytes : goal.returns-clause-bytes
returns-clause-bytes c = place_further

pub returns-clause-nowhere : goal.returns-clause-nowhere
returns-clause-nowhere c = location-nowhere

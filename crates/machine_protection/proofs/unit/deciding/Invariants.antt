use Rattle.std.proofs.Common.{◌≡◌, take}
use Rattle.machine_protection.specs.Protection.{deciding}
use Rattle.machine_protection.proofs.unit.deciding.Given as goal

abbrev pub invariant-loop-region : goal.invariant-loop-region
invariant-loop-region l = l.found ≡ deciding (take l.region-index l.regions) l.addr

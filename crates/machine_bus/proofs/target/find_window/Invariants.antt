use Rattle.std.proofs.Common.{◌≡◌, drop}
use Rattle.machine_bus.specs.Locations.{find_window}
use Rattle.machine_bus.proofs.target.find_window.Given as goal

abbrev pub invariant-loop-k : goal.invariant-loop-k
invariant-loop-k l = find_window l.windows 0 l.addr ≡ find_window (drop l.k l.windows) l.k l.addr

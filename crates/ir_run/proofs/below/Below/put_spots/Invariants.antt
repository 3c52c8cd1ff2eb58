use Rattle.std.proofs.Common.{◌≡◌, ◌++◌, map, take, reverse}
use Rattle.ir_run.specs.Acts.{frame_of}
use Rattle.ir_run.specs.Reads.{spot_of}
use Rattle.ir_run.proofs.below.Below.put_spots.Given as goal

abbrev pub invariant-loop-i : goal.invariant-loop-i
invariant-loop-i l = l.spots.items ≡ l.initial.spots.items ++ map spot_of (map frame_of (take l.i (reverse l.frames)))

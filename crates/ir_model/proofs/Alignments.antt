-- Alignments.
use Rattle.std.proofs.Common.{◌<◌, Bool, true, false, if◌then◌else◌}
use Rattle.ir_model.specs.Layout.{Shape}

pub positive_first : (b : Bool) (s t : Shape) → 0 < s.align → 0 < t.align → 0 < (if b then s else t).align
positive_first true s t h g = h
positive_first false s t h g = g

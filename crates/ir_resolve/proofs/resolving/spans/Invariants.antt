use Rattle.std.proofs.Common.{◌≡◌, map, take}
use Rattle.ir_model.specs.Resolve.{window_of}
use Rattle.ir_program.specs.Parts.{span_of}
use Rattle.ir_resolve.proofs.resolving.spans.Given as goal

abbrev pub invariant-loop-periph : goal.invariant-loop-periph
invariant-loop-periph l = map span_of l.spans.items ≡ map window_of (take l.periph-index l.periph-items)

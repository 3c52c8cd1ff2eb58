use Rattle.std.proofs.Common.{◌≡◌, ◌+◌, [], ◌∷◌, ◌++◌, map}
use Rattle.std.specs.List.{range_with_len}
use Rattle.ir_generator.specs.Made.{port}
use Rattle.ir_generator.proofs.Growing.{counted_more}
use Rattle.ir_generator.proofs.make.ports.Goals as goal

pub loop-number-preserved : goal.loop-number-preserved
loop-number-preserved c =
    let e : (c.loop-number.ports.items ++ port c.loop-number.number ∷ []) ≡ map port (range_with_len 0 (c.loop-number.number + 1)) =
    counted_more port [] c.loop-number.ports.items c.loop-number.number c.loop-number.invariant in
    cc (c.in_ok-push.ensures.items, c.in_ok-port.ensures)

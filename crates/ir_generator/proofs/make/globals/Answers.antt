use Rattle.std.proofs.Common.{◌≡◌, ◌+◌, [], ◌∷◌, ◌++◌, map}
use Rattle.std.specs.List.{range_with_len}
use Rattle.std.proofs.lemmas.List.{map_push}
use Rattle.ir_model.specs.Plain.{global_of}
use Rattle.ir_generator.specs.Made.{global}
use Rattle.ir_generator.proofs.Growing.{counted_more}
use Rattle.ir_generator.proofs.make.globals.Goals as goal

pub loop-number-preserved : goal.loop-number-preserved
loop-number-preserved c =
    let e : (map global_of c.loop-number.globals.items ++ global c.loop-number.number ∷ []) ≡ map global (range_with_len 0 (c.loop-number.number + 1)) =
    counted_more global [] (map global_of c.loop-number.globals.items) c.loop-number.number c.loop-number.invariant in
    cc (map_push global_of c.loop-number.globals.items c.in_ok-global.field-0, c.in_ok-push.ensures.items, c.in_ok-global.ensures)

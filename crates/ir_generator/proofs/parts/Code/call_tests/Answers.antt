use Rattle.std.proofs.Common.{◌≡◌, ◌+◌, [], ◌∷◌, ◌++◌, map}
use Rattle.std.specs.List.{range_with_len}
use Rattle.ir_generator.specs.Functions.{call_test}
use Rattle.ir_generator.proofs.Growing.{counted_more}
use Rattle.ir_generator.proofs.Proper.{v_is_name}
use Rattle.ir_generator.proofs.parts.Code.call_tests.Goals as goal

pub call-requires : goal.call-requires
call-requires c = v_is_name

pub loop-number-preserved : goal.loop-number-preserved
loop-number-preserved c =
    let e : (c.loop-number.self ++ call_test c.loop-number.number ∷ []) ≡ c.args.self.now ++ map call_test (range_with_len 0 (c.loop-number.number + 1)) =
    counted_more call_test c.args.self.now c.loop-number.self c.loop-number.number c.loop-number.invariant in
    cc (c.in_ok-call.ensures, c.in_ok-func.ensures)

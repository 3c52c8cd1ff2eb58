use Rattle.std.proofs.Common.{nat_eq, arith}
use Rattle.plan_layout.proofs.Before.{room_for_next}
use Rattle.plan_layout.proofs.numbers.sum_equal.Goals as goal

pub overflow_add-total : goal.overflow_add-total
overflow_add-total c =
    let room = room_for_next (λ n. nat_eq n c.args.same) c.args.numbers.now c.loop-number.number-index c.loop-number-test.true in
    omega arith

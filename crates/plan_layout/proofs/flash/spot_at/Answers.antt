use Rattle.std.proofs.Common.{◌≡◌, ℕ, ◌+◌, get_or, ap, arith}
use Rattle.plan_model.specs.declared.plan.Spot.{Spot}
use Rattle.plan_model.specs.FlashPlacement.{bytes_before}
use Rattle.plan_layout.proofs.Before.{room_before}
use Rattle.plan_layout.proofs.flash.spot_at.Goals as goal

pub overflow_add-before : goal.overflow_add-before
overflow_add-before c = let room = room_before c.args.blocks.now c.args.number c.requires.there in omega arith

pub overflow_cast-result : goal.overflow_cast-result
overflow_cast-result c = let room = room_before c.args.blocks.now c.args.number c.requires.there in omega arith

pub overflow_add-result : goal.overflow_add-result
overflow_add-result c = let room = room_before c.args.blocks.now c.args.number c.requires.there in omega arith

pub returns : goal.returns
unfolding bytes_before
returns c =
    let before : c.sum_above.result + c.sum_equal.result ≡ bytes_before c.args.blocks.now c.args.number = omega arith in
    ap (λ (n : ℕ). let s : Spot = record { base = c.args.base + n; size = get_or c.args.blocks.now c.args.number 0 } in s) before

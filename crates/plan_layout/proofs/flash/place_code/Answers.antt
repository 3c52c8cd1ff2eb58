use Rattle.std.proofs.Common.{length, ap, arith}
use Rattle.plan_layout.proofs.FlashCount.{flash_count}
use Rattle.plan_layout.proofs.flash.place_code.Goals as goal

pub spot_at-tables-requires-clause-there : goal.spot_at-tables-requires-clause-there
spot_at-tables-requires-clause-there c =
    let size = ap length c.in_ok-blocks.ensures in
    let count = flash_count c.args.sizes.now in
    omega arith

pub code_spots-requires-clause-there : goal.code_spots-requires-clause-there
code_spots-requires-clause-there c =
    let size = ap length c.in_ok-blocks.ensures in
    let count = flash_count c.args.sizes.now in
    let code = ap length c.requires.code in
    omega arith

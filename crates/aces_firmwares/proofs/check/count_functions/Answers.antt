use Rattle.std.proofs.Common.{arith}
use Rattle.aces_firmwares.proofs.Firmwares.{room_for_more}
use Rattle.aces_firmwares.proofs.check.count_functions.Goals as goal

pub overflow_add-count : goal.overflow_add-count
overflow_add-count c =
    let room = room_for_more c.args.files.now c.loop-file.file-index c.file-item.result c.loop-file-test.true c.file-item.is in
    omega (arith, c.len-count.ensures, c.loop-file.invariant, c.requires)

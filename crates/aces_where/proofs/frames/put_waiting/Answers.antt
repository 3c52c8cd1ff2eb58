use Rattle.std.proofs.Common.{take, get_or, refl, arith}
use Rattle.ir_model.specs.Plain.{firmware_of}
use Rattle.ir_program.specs.Seen.{program_of}
use Rattle.plan_report.proofs.Growing.{item_more, put_each}
use Rattle.aces_where.specs.PlaceLines.{waits_line}
use Rattle.aces_where.proofs.frames.put_waiting.Goals as goal

pub loop-i-preserved : goal.loop-i-preserved
loop-i-preserved c =
    let xs = c.args.waiting.now in
    let i = c.loop-i.i in
    let x = get_or xs i (record { func = 0; block = 0; place = 0 }) in
    put_each (waits_line (firmware_of c.args.firmware.now) (program_of c.args.program.now)) (take i xs) _ x c.args.text.now c.loop-i.text _
    (item_more xs i x (record { func = 0; block = 0; place = 0 }) (omega arith) refl) c.loop-i.invariant c.in_ok-put_waits.ensures

use Rattle.ir_model.specs.Plain.{firmware_of}
use Rattle.aces_where.proofs.Stops.{lines_told}
use Rattle.aces_where.proofs.telling.lines_on.Goals as goal

pub returns : goal.returns
returns c =
    lines_told (firmware_of c.args.firmware.now) c.args.compartments.now c.args.tape c.args.steps c.in_ok-halt.halt c.in_ok-lines.lines.items
    c.in_ok-halt.ensures (rw c.requires.again at c.in_ok-lines.ensures)

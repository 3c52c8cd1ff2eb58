use Rattle.std.proofs.Common.{◌∙◌}
use Rattle.aces_firmwares.proofs.Firmwares.{few_declared, counted_line}
use Rattle.aces_firmwares.proofs.check.counts_of.Goals as goal

pub count_functions-functions-requires : goal.count_functions-functions-requires
count_functions-functions-requires c =
    rw (c.as_slice.ensures, c.firmware-firmware.ensures.same) (few_declared c.args.checked.now c.firmware-firmware.ensures.within)

pub returns : goal.returns
returns c =
    let same = c.firmware-firmware.ensures.same in
    c.count_line.ensures
    ∙ counted_line c.args.checked.now c.count_functions-functions.result c.len.result c.len-2.result
    (rw (c.as_slice.ensures, same) at c.count_functions-functions.ensures) (rw same at c.len.ensures) (rw same at c.len-2.ensures)

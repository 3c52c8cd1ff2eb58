use Rattle.machine_lines.proofs.Digits.{room_for_last, with_last}
use Rattle.machine_lines.proofs.numbers.Digits.+append_decimal.Goals as goal

pub append_byte-requires-2 : goal.append_byte-requires-2
append_byte-requires-2 t c =
    room_for_last c.args.self.now _ c.args.number c.if-number-lt10.false c.ranges.number.fits c.requires c.append_decimal.ensures

pub returns : goal.returns
returns t c =
    with_last c.args.self.now _ _ c.args.number c.if-number-lt10.false c.ranges.number.fits c.append_decimal.ensures c.append_byte-2.ensures.bytes

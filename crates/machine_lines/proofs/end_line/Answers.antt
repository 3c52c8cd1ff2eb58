use Rattle.machine_lines.specs.Lines.{end_line}
use Rattle.machine_lines.proofs.Joined.{joined_three, joined_five}
use Rattle.machine_lines.proofs.end_line.Goals as goal

pub returns-in-Halt : goal.returns-in-Halt
unfolding end_line
returns-in-Halt c =
    rw c.in-Halt.is (joined_three _ _ _ _ _ _ _ c.append.ensures.bytes (rw c.from.ensures at c.append_decimal.ensures.bytes) c.append-in-Halt.ensures.bytes c.new-line.ensures)

pub returns-in-InputEnd : goal.returns-in-InputEnd
unfolding end_line
returns-in-InputEnd c = rw (c.in-InputEnd.is, c.append-in-InputEnd.ensures.bytes, c.new-line.ensures)

pub returns-in-Stop : goal.returns-in-Stop
unfolding end_line
returns-in-Stop c =
    rw (c.in-Stop.is, ← c.reason_text.ensures.text) (joined_five _ _ _ _ _ _ _ _ _ _ _ c.append-in-Stop.ensures.bytes c.append-in-Stop-2.ensures.bytes
    c.append-in-Stop-3.ensures.bytes c.append_hexadecimal.ensures.bytes c.append-in-Stop-4.ensures.bytes c.new-line.ensures)

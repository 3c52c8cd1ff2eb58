use Rattle.machine_lines.specs.Lines.{event_line}
use Rattle.machine_lines.proofs.Joined.{joined_ten}
use Rattle.machine_lines.proofs.event_line.Goals as goal

pub returns : goal.returns
unfolding event_line
returns c =
    rw (← c.direction_text.ensures.text, ← c.name_of.ensures) (joined_ten _ _ _ _ _ _ _ _ _ _ _ _ _ _ _ _ _ _ _ _ _
    (rw c.from.ensures at c.append_decimal.ensures.bytes) c.append.ensures.bytes c.append-2.ensures.bytes c.append-3.ensures.bytes
    c.append_hexadecimal.ensures.bytes c.append-4.ensures.bytes (rw c.from-2.ensures at c.append_decimal-2.ensures.bytes) c.append-5.ensures.bytes
    c.append_hexadecimal-2.ensures.bytes c.append-6.ensures.bytes c.new-line.ensures)

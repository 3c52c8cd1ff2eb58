use Rattle.machine_lines.specs.Lines.{count_line}
use Rattle.machine_lines.proofs.Joined.{joined_seven}
use Rattle.machine_lines.proofs.count_line.Goals as goal

pub returns : goal.returns
unfolding count_line
returns c =
    joined_seven _ _ _ _ _ _ _ _ _ _ _ _ _ _ _ c.append.ensures.bytes c.append_decimal.ensures.bytes c.append-2.ensures.bytes
    c.append_decimal-2.ensures.bytes c.append-3.ensures.bytes c.append_decimal-3.ensures.bytes c.append-4.ensures.bytes c.new-line.ensures

use Rattle.machine_lines.specs.Lines.{watch_line}
use Rattle.machine_lines.proofs.Joined.{joined_three}
use Rattle.machine_lines.proofs.watch_line.Goals as goal

pub returns : goal.returns
unfolding watch_line
returns c =
    joined_three _ _ _ _ _ _ _ c.append.ensures.bytes c.append_hexadecimal.ensures.bytes c.append-2.ensures.bytes c.new-line.ensures

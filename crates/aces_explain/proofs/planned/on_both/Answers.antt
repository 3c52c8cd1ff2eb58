use Rattle.aces_explain.specs.Plans.{no_firmware}
use Rattle.aces_explain.proofs.planned.on_both.Goals as goal

pub returns-in-Faulty : goal.returns-in-Faulty
returns-in-Faulty c = no_firmware c.in-Faulty.lines.items (rw c.in-Faulty.is at c.in_ok-lines.ensures)

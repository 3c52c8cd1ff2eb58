use Rattle.ir_model.specs.Plain.{firmware_of}
use Rattle.aces_explain.specs.Answers.{fine}
use Rattle.aces_explain.proofs.telling.tell.Goals as goal

pub returns-in_ok-line_of_counts-in-Fine : goal.returns-in_ok-line_of_counts-in-Fine
returns-in_ok-line_of_counts-in-Fine c =
    rw c.in_ok-line_of_counts-in-Fine.ensures (fine (firmware_of c.in-Fine.checked) (rw c.in-Fine.is at c.in_ok-lines.ensures))

use Rattle.ir_model.specs.Plain.{firmware_of}
use Rattle.aces_why.specs.Answers.{told}
use Rattle.aces_why.proofs.commanding.reach_by_bytes.Goals as goal

pub returns-clause-ok : goal.returns-clause-ok
returns-clause-ok c = told (firmware_of c.in_ok-checked.checked) c.in_ok-lines.lines.items c.in_ok-checked.ensures.ok c.in_ok-lines.ensures

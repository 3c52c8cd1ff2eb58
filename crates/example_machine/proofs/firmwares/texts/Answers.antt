use Rattle.example_machine.proofs.Spelling.{computes_spelling}
use Rattle.example_machine.proofs.Shortest.{computes_shortest}
use Rattle.example_machine.proofs.firmwares.texts.Goals as goal

pub returns-clause-of_forms : goal.returns-clause-of_forms
returns-clause-of_forms c = computes_spelling

pub returns-clause-of_shortest : goal.returns-clause-of_shortest
returns-clause-of_shortest c = computes_shortest

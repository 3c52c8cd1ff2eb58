use Rattle.monitor_steps.specs.Runs.{GoodBy}
use Rattle.monitor_steps.proofs.CodeParts.{flash_has_code, code_has_its_length}
use Rattle.monitor_steps.proofs.laws.code_stands.Goals as goal

pub returns-clause-in_flash : goal.returns-clause-in_flash
returns-clause-in_flash c = λ j i good. flash_has_code j i (GoodBy good)

pub returns-clause-length : goal.returns-clause-length
returns-clause-length c = code_has_its_length

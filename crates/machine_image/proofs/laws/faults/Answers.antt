use Rattle.machine_image.specs.Parts.{spelled_image}
use Rattle.machine_image.proofs.Answering.{Reads-text}
use Rattle.machine_image.proofs.Texts.{text_is_faultless, spelled_is_text}
use Rattle.machine_image.proofs.laws.faults.Goals as goal

pub returns-clause-faultless : goal.returns-clause-faultless
returns-clause-faultless c = text_is_faultless

pub returns-clause-texts : goal.returns-clause-texts
returns-clause-texts c b bytes none = (spelled_image b, spelled_is_text b bytes none)

pub returns-clause-read : goal.returns-clause-read
returns-clause-read c = Reads-text

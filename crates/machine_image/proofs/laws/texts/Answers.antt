use Rattle.std.proofs.Common.{sym, ◌∙◌}
use Rattle.machine_image.proofs.Texts.{spelled_image-text}
use Rattle.machine_image.proofs.laws.texts.Goals as goal

pub returns-clause-unique : goal.returns-clause-unique
returns-clause-unique c i k b of_i of_k = sym (spelled_image-text i b of_i) ∙ spelled_image-text k b of_k

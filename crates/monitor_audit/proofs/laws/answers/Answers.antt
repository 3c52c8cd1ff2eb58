use Rattle.monitor_audit.proofs.Answered.{answers_are_unique, sound_images_are_answered_yes}
use Rattle.monitor_audit.proofs.laws.answers.Goals as goal

pub returns-clause-unique : goal.returns-clause-unique
returns-clause-unique c = answers_are_unique

pub returns-clause-yes : goal.returns-clause-yes
returns-clause-yes c = sound_images_are_answered_yes

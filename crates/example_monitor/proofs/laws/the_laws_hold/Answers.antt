use Rattle.example_monitor.specs.LentImage.{tables}
use Rattle.example_monitor.specs.Joined.{whole_image}
use Rattle.example_monitor.proofs.Obeys.{obeys_rules, is_sound}
use Rattle.example_monitor.proofs.laws.the_laws_hold.Goals as goal

pub returns-clause-sound : goal.returns-clause-sound
returns-clause-sound c = (obeys_rules, is_sound c.sound_image.ensures)

pub returns-clause-start : goal.returns-clause-start
returns-clause-start c = c.images_start.ensures whole_image tables obeys_rules (is_sound c.sound_image.ensures)

pub returns-clause-confined : goal.returns-clause-confined
returns-clause-confined c = c.sound_images_are_confined.ensures whole_image tables obeys_rules (is_sound c.sound_image.ensures)

pub returns-clause-law : goal.returns-clause-law
returns-clause-law c = c.sound_images_serve_simulation.ensures whole_image tables obeys_rules (is_sound c.sound_image.ensures) tt

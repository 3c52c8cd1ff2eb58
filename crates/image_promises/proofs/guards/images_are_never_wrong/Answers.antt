use Rattle.monitor_model.specs.Layout.{initial_word_count}
use Rattle.image_promises.specs.Planned.{planned_image, planned_tables}
use Rattle.image_promises.proofs.guards.images_are_never_wrong.Goals as goal

pub returns : goal.returns
returns c w S n f b is least needs free =
    c.never_wrong.ensures w f.groups (initial_word_count (planned_tables w n f b)) (planned_image w n f b)
    (c.refined_or_stopped_images.ensures w S n f b is least needs (c.stacks.ensures w n f b is free))

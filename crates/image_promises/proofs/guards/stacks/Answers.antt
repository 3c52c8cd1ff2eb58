use Rattle.image_promises.specs.Planned.{planned_image, planned_tables}
use Rattle.monitor_program.specs.TheCode.{monitor_code}
use Rattle.image_promises.proofs.guards.stacks.Goals as goal

pub returns : goal.returns
returns c w n f b is free =
    let rules = c.images.ensures w n f b is in
    let sound = c.sound.ensures w n f b is in
    c.guards_serve.ensures monitor_code (planned_image w n f b) (planned_tables w n f b)
    (c.sound_images_are_placed.ensures monitor_code (planned_image w n f b) (planned_tables w n f b) rules sound).0
    (c.stubs_stand.ensures (planned_image w n f b) (planned_tables w n f b) rules sound)
    (c.handlers_keep_the_law.ensures (planned_image w n f b) (planned_tables w n f b) rules sound)
    (c.guarded_plans.ensures w n f b is free)

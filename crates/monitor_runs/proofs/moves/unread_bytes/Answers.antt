use Rattle.monitor_runs.proofs.Composed.{sound_images_ignore}
use Rattle.monitor_runs.proofs.moves.unread_bytes.Goals as goal

pub returns : goal.returns
returns c =
    sound_images_ignore c.listed_reads.ensures c.threads_reach.ensures c.steps_are_confined.ensures
    (record {
      order = c.changes_keep_order.ensures;
      shape = c.shapes.ensures.of_steps;
      lead = c.steps_lead.ensures;
      steps = c.unprivileged_steps.ensures;
      frames = record { pushed = c.frames.ensures.pushed; in_ram = c.frames.ensures.in_ram };
    })
    c.sound_images_are_placed.ensures c.images_start.ensures c.handlers_keep_the_law.ensures

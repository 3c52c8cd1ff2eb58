use Rattle.monitor_program.specs.TheCode.{monitor_code}
use Rattle.image_runs.proofs.Devices.{DeviceLaws, in_slots}
use Rattle.image_runs.proofs.denied.devices.Goals as goal

pub returns : goal.returns
returns c =
    let laws : DeviceLaws = record {
      permit = c.kept_lists_decide.ensures.unprivileged;
      held = c.regions_hold_their_blocks.ensures;
      accesses = c.unprivileged_accesses.ensures.reached;
    } in
    λ i t rules s queues first reset.
    in_slots laws i t (c.sound_images_are_placed.ensures monitor_code i t rules s).0 first (c.runs_keep_memory.ensures i t rules s queues first reset)

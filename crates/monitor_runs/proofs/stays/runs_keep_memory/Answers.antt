use Rattle.monitor_program.specs.TheCode.{monitor_code}
use Rattle.monitor_runs.proofs.Segments.{RunLaws}
use Rattle.monitor_runs.proofs.ActChanges.{ActLaws}
use Rattle.monitor_runs.proofs.Kept.{AccessLaws, each_keeps}
use Rattle.monitor_runs.proofs.stays.runs_keep_memory.Goals as goal

pub returns : goal.returns
returns c =
    let runs : RunLaws = record {
      order = c.changes_keep_order.ensures;
      shape = c.shapes.ensures.of_steps;
      lead = c.steps_lead.ensures;
      steps = c.unprivileged_steps.ensures;
      frames = record { pushed = c.frames.ensures.pushed; in_ram = c.frames.ensures.in_ram };
    } in
    let laws : ActLaws = record { runs = runs; accesses = c.unprivileged_accesses.ensures.reached; reach = c.threads_reach.ensures; listed = c.listed_stores.ensures } in
    let units : AccessLaws = record { permit = c.kept_lists_decide.ensures.unprivileged; held = c.regions_hold_their_blocks.ensures; events = c.listed_accesses.ensures.events } in
    λ i t rules s.
    each_keeps laws units i t (monitor_code.stub t) (c.sound_images_are_placed.ensures monitor_code i t rules s).0 (c.handlers_keep_the_law.ensures i t rules s) (c.images_start.ensures i t rules s)
    (c.who_runs.ensures i t rules s) c.calls_come_back.ensures

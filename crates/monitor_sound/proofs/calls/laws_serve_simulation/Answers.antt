use Rattle.monitor_sound.proofs.Serve.{laws_serve_simulation}
use Rattle.monitor_sound.proofs.calls.laws_serve_simulation.Goals as goal

pub returns : goal.returns
returns c =
    laws_serve_simulation (record {
      unit = record {
        permit = c.kept_lists_decide.ensures.unprivileged;
        opened = c.open_eighths_are_held.ensures.held;
        rights = c.regions_give_their_rights.ensures;
        held = c.regions_hold_their_blocks.ensures;
      };
      frames = record { pushed = c.frames.ensures.pushed; in_ram = c.frames.ensures.in_ram };
      performed = c.instructions.ensures.performed;
      allowed = c.access_law.ensures;
      steps = c.unprivileged_steps.ensures;
      done = c.performed_accesses.ensures.of_standing;
      shape = c.shapes.ensures.of_steps;
      transfers = c.templates.ensures.of_transfers;
      status = c.frames.ensures.of_thread;
      lead = c.steps_lead.ensures;
      order = c.changes_keep_order.ensures;
    })

use Rattle.image_runs.proofs.KeptOff.{keep_off}
use Rattle.image_runs.proofs.denied.planned_runs_keep_off.Goals as goal

pub returns : goal.returns
returns c =
    keep_off
    (record {
      of_data = record {
        globals = record {
          plans = record { flash = c.flash.ensures; apart = c.ram.ensures; there = c.places.ensures.there; inside = c.places.ensures.inside };
          laid = c.globals.ensures.laid;
          held = c.globals.ensures.held;
        };
        held = c.regions_hold_their_blocks.ensures;
        opened = c.open_eighths_are_held.ensures.held;
        given = c.regions_give_their_rights.ensures;
      };
      windows = c.windows.ensures;
    })
    c.stay_sound.ensures c.sound.ensures c.images.ensures c.devices.ensures

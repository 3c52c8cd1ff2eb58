use Rattle.image_runs.proofs.Isolation.{kept_runs_are_isolated}
use Rattle.image_runs.proofs.stays.kept_runs_are_isolated.Goals as goal

pub returns : goal.returns
returns c =
    kept_runs_are_isolated
    (record {
      plans = record { flash = c.flash.ensures; apart = c.ram.ensures; there = c.places.ensures.there; inside = c.places.ensures.inside };
      laid = c.globals.ensures.laid;
      held = c.globals.ensures.held;
    })
    c.permissions.ensures c.slots_are_own.ensures c.masks_are_needed.ensures

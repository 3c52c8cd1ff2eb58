use Rattle.image_promises.proofs.GlobalsPlaced.{globals_are_placed}
use Rattle.image_promises.proofs.globals.globals.Goals as goal

pub returns : goal.returns
returns c =
    globals_are_placed
    (record {
      of_data = record {
        globals = record {
          plans = record { flash = c.flash.ensures; apart = c.ram.ensures; there = c.places.ensures.there; inside = c.places.ensures.inside };
          laid = c.globals.ensures.laid;
          held = c.globals.ensures.held;
        };
        held = c.regions_hold_their_blocks.ensures;
        opened = c.open_eighths_are_held.ensures.held;
        given = c.regions_give_their_rights.ensures;
      };
      few = c.final_graph_fits_slots.ensures;
    })
    c.loans.ensures

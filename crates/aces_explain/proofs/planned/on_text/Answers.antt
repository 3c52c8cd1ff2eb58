use Rattle.std.proofs.Common.{Ok}
use Rattle.ir_model.specs.Plain.{firmware_of}
use Rattle.aces_reports.specs.Ends.{status_of}
use Rattle.aces_explain.specs.Plans.{told}
use Rattle.aces_explain.proofs.planned.on_text.Goals as goal

pub returns-in_ok-told-in-Ok : goal.returns-in_ok-told-in-Ok
returns-in_ok-told-in-Ok c =
    told (firmware_of c.args.checked.now) c.in-Ok.read (status_of (Ok c.in_ok-told-in-Ok.told.done)) c.in_ok-told-in-Ok.told.lines.items c.requires c.in-Ok.ensures.read
    c.in_ok-told-in-Ok.ensures

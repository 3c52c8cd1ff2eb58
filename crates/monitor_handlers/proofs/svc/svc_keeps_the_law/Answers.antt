use Rattle.monitor_steps.proofs.Runs.{Laws}
use Rattle.monitor_laws.proofs.Fetched.{UnitLaws}
use Rattle.monitor_handlers.proofs.Frames.{StackLaws}
use Rattle.monitor_handlers.proofs.Entry.{EntryLaws}
use Rattle.monitor_handlers.proofs.Returned.{ReturnLaws}
use Rattle.monitor_handlers.proofs.Law.{CallLaws, svc_keeps_the_law}
use Rattle.monitor_handlers.proofs.svc.svc_keeps_the_law.Goals as goal

pub returns : goal.returns
returns c =
    let compared = c.comparisons.ensures in
    let lists = c.kept_lists_decide.ensures in
    let list : Laws = record { keeps_shape = c.shapes.ensures.of_steps; equal = compared.equal; unequal = compared.unequal; below = compared.below; at_most = compared.at_most } in
    let unit : UnitLaws = record { kept = c.regions_are_kept.ensures; held = c.regions_hold_their_blocks.ensures; rights = c.regions_give_their_rights.ensures } in
    let stack : StackLaws = record { permit = lists.unprivileged; opened = c.open_eighths_are_held.ensures.held; rights = c.regions_give_their_rights.ensures } in
    let entry : EntryLaws = record { frames = c.frames.ensures.in_ram; reach = c.threads_reach.ensures } in
    let back : ReturnLaws = record { stack = stack; steps = c.instructions.ensures.performed } in
    let laws : CallLaws = record { unit = unit; entry = entry; back = back; list = list; code_fits = c.page_is_full.ensures.fits; nothing = c.accesses.ensures.of_nothing } in
    svc_keeps_the_law laws

use Rattle.monitor_confined.proofs.Reaches.{UnitLaws, threads_reach}
use Rattle.monitor_confined.proofs.protection.threads_reach.Goals as goal

pub returns : goal.returns
returns c =
    let laws : UnitLaws = record {
      permit = c.kept_lists_decide.ensures.unprivileged;
      opened = c.open_eighths_are_held.ensures.held;
      rights = c.regions_give_their_rights.ensures;
      held = c.regions_hold_their_blocks.ensures;
    } in
    threads_reach laws

use Rattle.monitor_model.specs.Invariant.{Invariant}
use Rattle.monitor_model.specs.Setting.{setting_of}
use Rattle.refine.proofs.Stops.{entry_stops}
use Rattle.refine.proofs.overruns.entries_without_room_stop.Goals as goal

pub returns : goal.returns
returns c code i t law rules laws stack = entry_stops (setting_of code i t) (Invariant i t) law rules stack laws

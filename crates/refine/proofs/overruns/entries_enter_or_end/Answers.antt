use Rattle.monitor_model.specs.Invariant.{Invariant}
use Rattle.monitor_model.specs.Setting.{setting_of}
use Rattle.refine.proofs.Lends.{entered}
use Rattle.refine.proofs.overruns.entries_enter_or_end.Goals as goal

pub returns : goal.returns
returns c code i t law rules laws fn q labels = entered (setting_of code i t) (Invariant i t) law rules laws fn q labels

use Rattle.monitor_model.specs.Invariant.{Invariant}
use Rattle.monitor_model.specs.Setting.{setting_of}
use Rattle.refine.proofs.Callees.{inside, across}
use Rattle.refine.proofs.overruns.calls_enter_or_end.Goals as goal

pub returns : goal.returns
returns c code i t law rules laws = record {
  inside = λ fn q labels w. inside (setting_of code i t) (Invariant i t) law rules laws fn q labels w;
  across = λ fn q labels w. across (setting_of code i t) (Invariant i t) law rules laws fn q labels w;
}

use Rattle.std.proofs.Common.{◌≡◌, ◌++◌, flat_map}
use Rattle.plan_model.specs.Lists.{numbers_below}
use Rattle.monitor_model.specs.Records.{compartment_at}
use Rattle.aces_audit.specs.TableLines.{record_lines}
use Rattle.aces_audit.proofs.compartments.put_compartments.Given as goal

abbrev pub invariant-loop-i : goal.invariant-loop-i
invariant-loop-i l = l.text ≡ l.initial.text ++ flat_map (λ c. record_lines l.windows c (compartment_at l.tables c)) (numbers_below l.i)

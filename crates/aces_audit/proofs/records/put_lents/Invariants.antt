use Rattle.std.proofs.Common.{◌≡◌, ◌++◌, flat_map}
use Rattle.plan_model.specs.Lists.{numbers_below}
use Rattle.monitor_model.specs.Records.{lend_size}
use Rattle.aces_audit.specs.TableLines.{lent_line}
use Rattle.aces_audit.proofs.records.put_lents.Given as goal

abbrev pub invariant-loop-i : goal.invariant-loop-i
invariant-loop-i l = l.text ≡ l.initial.text ++ flat_map (λ k. lent_line k (lend_size l.tables k)) (numbers_below l.i)

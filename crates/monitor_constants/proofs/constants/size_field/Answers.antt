use Rattle.std.proofs.Common.{◌-◌, sym, ap, ◌∙◌}
use Rattle.machine_protection.specs.RegionWords.{size_field}
use Rattle.monitor_constants.proofs.Counted.{zeros_of_greatest}
use Rattle.monitor_constants.proofs.constants.size_field.Goals as goal

pub returns-then-size-clause-exact : goal.returns-then-size-clause-exact
returns-then-size-clause-exact c = sym (ap size_field c.if-size.true ∙ ap (λ n. n - 1) zeros_of_greatest)

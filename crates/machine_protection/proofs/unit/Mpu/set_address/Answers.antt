use Rattle.std.proofs.Common.{◌∙◌, ap}
use Rattle.machine_protection.specs.Registers.{with_address}
use Rattle.machine_protection.proofs.Selected.{with_address_kept}
use Rattle.machine_protection.proofs.unit.Mpu.set_address.Goals as goal

pub returns-then-number-self : goal.returns-then-number-self
returns-then-number-self c =
    let m = c.self.inside in
    rw c.kept_address.ensures (with_address_kept m.control.0 m.number m.count m.regions c.args.value c.if-number-self.true ∙ ap (λ x. with_address x c.args.value) c.self.view_is)

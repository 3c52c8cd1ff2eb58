use Rattle.std.proofs.Common.{◌∙◌, ap}
use Rattle.machine_protection.specs.Registers.{with_attributes}
use Rattle.machine_protection.proofs.Selected.{with_attributes_kept}
use Rattle.machine_protection.proofs.unit.Mpu.set_attributes.Goals as goal

pub returns-then-number-self : goal.returns-then-number-self
returns-then-number-self c =
    let m = c.self.inside in
    rw c.kept_attributes.ensures (with_attributes_kept m.control.0 m.number m.count m.regions c.args.value c.if-number-self.true ∙ ap (λ x. with_attributes x c.args.value) c.self.view_is)

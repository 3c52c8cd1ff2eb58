use Rattle.std.proofs.Common.{◌≡◌, length, ap, ◌∙◌}
use Rattle.std.proofs.lemmas.List.{length-map}
use Rattle.ir_model.specs.Resolved.{Program}
use Rattle.plan_model.specs.declared.groups.Groups.{Groups}
use Rattle.plan_model.specs.Compartments.{AreCompartments, compartment_number, compartments}

-- and each has its compartment
pub each_compartment : (p : Program) (g : Groups) → AreCompartments p g → length g.of ≡ length p.funcs
unfolding compartments
each_compartment p g h = ap (λ (x : Groups). length x.of) h.are ∙ (length-map h.groups (compartment_number h.groups) ∙ h.each)

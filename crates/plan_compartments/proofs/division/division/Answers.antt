use Rattle.std.proofs.Common.{ap, ◌∙◌}
use Rattle.ir_model.specs.Plain.{firmware_of}
use Rattle.plan_model.specs.Compartments.{compartments}
use Rattle.plan_compartments.specs.Divisions.{groups_by}
use Rattle.plan_compartments.proofs.Counting.{are_compartments}
use Rattle.plan_compartments.proofs.division.division.Goals as goal

pub returns-clause-are : goal.returns-clause-are
returns-clause-are c =
    are_compartments c.args.policy (firmware_of c.args.firmware.now) c.args.needs.now c.in_ok-made.made c.requires
    (c.in_ok-made.ensures ∙ ap compartments (c.as_slice-2.ensures.value ∙ (c.in_ok-numbers.ensures ∙ ap (groups_by c.args.policy) (c.as_slice.ensures.value ∙ c.in_ok-facts.ensures.exact))))

use Rattle.std.proofs.Common.{sym, ◌∙◌}
use Rattle.ir_model.specs.Plain.{firmware_of}
use Rattle.ir_model.specs.Resolve.{resolve}
use Rattle.ir_laws.proofs.Resolved.{as_many}
use Rattle.plan_model.proofs.Compartments.{each_compartment}
use Rattle.plan_firmwares.proofs.Counting.{each_resolved}
use Rattle.plan_firmwares.proofs.planning.analyse.Goals as goal

pub invariant_of-result : goal.invariant_of-result
invariant_of-result c =
    let w = firmware_of c.args.firmware.now in
    record {
      each_need = c.in_ok-needs.ensures.each ∙ sym (each_resolved c.in_ok-program.program w c.in_ok-program.ensures.exact);
      each_group = each_compartment (resolve w) c.in_ok-groups.groups c.in_ok-groups.ensures.are ∙ (as_many w ∙ sym c.in_ok-needs.ensures.each);
    }

pub returns-clause-exact : goal.returns-clause-exact
returns-clause-exact c = record {
  program = c.in_ok-program.ensures.exact;
  needs = c.in_ok-needs.ensures.exact;
  groups = c.in_ok-groups.ensures.by;
  compartments = c.in_ok-groups.ensures.are;
}

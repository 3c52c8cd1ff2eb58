use Rattle.std.proofs.Common.{subst, sym, ◌∙◌}
use Rattle.ir_model.specs.Plain.{firmware_of}
use Rattle.ir_model.specs.Resolve.{resolve}
use Rattle.ir_model.specs.Resolved.{Program}
use Rattle.plan_model.proofs.Compartments.{each_compartment}
use Rattle.plan.specs.Planned.{IsPlannedFor}
use Rattle.aces_compiler.proofs.Parts.{routines}
use Rattle.aces_compiler.proofs.pipeline.plan_of_groups.Goals as goal

pub planned_firmware-requires-clause-needs : goal.planned_firmware-requires-clause-needs
planned_firmware-requires-clause-needs c =
    each_compartment (resolve (firmware_of c.args.firmware.now)) c.args.groups c.requires.groups ∙ sym c.requires.needs.needs.count

pub planned_firmware-requires-clause-each : goal.planned_firmware-requires-clause-each
planned_firmware-requires-clause-each c =
    let w = firmware_of c.args.firmware.now in
    each_compartment (resolve w) c.args.groups c.requires.groups ∙ sym (routines c.args.analysis.now.program w c.requires.program)

pub returns-clause-ok : goal.returns-clause-ok
returns-clause-ok c =
    subst (λ (p : Program). IsPlannedFor p c.args.analysis.now.needs c.args.groups c.args.board.now c.in_ok-made.made) c.requires.program c.in_ok-made.ensures.ok

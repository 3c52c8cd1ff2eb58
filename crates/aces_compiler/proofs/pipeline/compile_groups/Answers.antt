use Rattle.std.proofs.Common.{subst, sym}
use Rattle.ir_model.specs.Plain.{firmware_of}
use Rattle.ir_model.specs.Resolve.{resolve}
use Rattle.plan_model.specs.declared.groups.Groups.{Groups}
use Rattle.plan_model.specs.Compartments.{AreCompartments}
use Rattle.aces_compiler.specs.Compiled.{IsImageFor}
use Rattle.aces_compiler.proofs.Parts.{in_own_groups}
use Rattle.aces_compiler.proofs.pipeline.compile_groups.Goals as goal

pub promised_image-requires-clause-groups : goal.promised_image-requires-clause-groups
promised_image-requires-clause-groups c =
    subst (AreCompartments (resolve (firmware_of c.args.firmware.now))) (sym c.in_ok-plan.ensures.ok.groups) c.requires.groups

pub promised_image-requires-clause-planned : goal.promised_image-requires-clause-planned
promised_image-requires-clause-planned c =
    in_own_groups (resolve (firmware_of c.args.firmware.now)) c.args.analysis.now.needs c.args.board.now c.args.groups c.in_ok-plan.plan c.in_ok-plan.ensures.ok

pub returns-clause-ok : goal.returns-clause-ok
returns-clause-ok c =
    let w = firmware_of c.args.firmware.now in
    subst (λ (g : Groups). IsImageFor w c.args.analysis.now.needs c.args.board.now g c.in_ok-image.image) c.in_ok-plan.ensures.ok.groups c.in_ok-image.ensures

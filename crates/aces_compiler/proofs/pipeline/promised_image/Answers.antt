use Rattle.ir_model.specs.Plain.{firmware_of}
use Rattle.plan_firmwares.proofs.Planned.{is_planned}
use Rattle.aces_compiler.proofs.Parts.{plan_is, is_image}
use Rattle.aces_compiler.proofs.pipeline.promised_image.Goals as goal

pub image_of_plan-requires-clause-plan : goal.image_of_plan-requires-clause-plan
image_of_plan-requires-clause-plan c =
    let made = c.args.planned.now in
    plan_is (firmware_of c.args.firmware.now) c.args.analysis.now.needs c.args.board.now made.graph.groups made c.requires.planned

pub returns : goal.returns
returns c =
    let w = firmware_of c.args.firmware.now in
    let n = c.args.analysis.now.needs in
    let b = c.args.board.now in
    let made = c.args.planned.now in
    let groups = made.graph.groups in
    let all = c.all_promises.ensures in
    let is =
    is_planned w n b groups made c.requires.planned all.serve c.firmware.ensures.typed c.firmware.ensures.within c.requires.needs c.requires.board c.requires.groups in
    is_image w n b groups made c.requires.planned is c.requires.needs all c.in_ok-image.image c.in_ok-image.ensures

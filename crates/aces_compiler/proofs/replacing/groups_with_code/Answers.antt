use Rattle.std.proofs.Common.{subst, sym}
use Rattle.ir_model.specs.Plain.{firmware_of}
use Rattle.ir_model.specs.Resolve.{resolve}
use Rattle.plan_model.specs.Compartments.{AreCompartments}
use Rattle.plan_firmwares.proofs.Planned.{is_planned}
use Rattle.aces_compiler.proofs.Parts.{plan_is}
use Rattle.aces_compiler.proofs.Replaced.{beyond, too_long, with_code}
use Rattle.aces_compiler.proofs.replacing.groups_with_code.Goals as goal

pub image_of_plan-requires-clause-plan : goal.image_of_plan-requires-clause-plan
image_of_plan-requires-clause-plan c =
    let w = firmware_of c.args.firmware.now in
    let made = c.in-Ok.made in
    plan_is w c.args.analysis.now.needs c.args.board.now c.args.groups made c.in-Ok.ensures.ok

pub returns-in_default-clause-refused : goal.returns-in_default-clause-refused
returns-in_default-clause-refused c =
    let w = firmware_of c.args.firmware.now in
    let n = c.args.analysis.now.needs in
    let b = c.args.board.now in
    let groups = c.args.groups in
    let made = c.in-Ok.made in
    let planned = c.in-Ok.ensures.ok in
    let are = subst (AreCompartments (resolve w)) (sym planned.groups) c.requires.groups in
    let is = is_planned w n b groups made planned c.all_promises.ensures.serve c.firmware.ensures.typed c.firmware.ensures.within c.requires.needs c.requires.board are in
    beyond w n b groups made planned is c.args.compartment c.as_slice.result.now c.as_slice.ensures c.in_default.ensures.lookup.3

pub returns-then-code-spot-clause-refused : goal.returns-then-code-spot-clause-refused
returns-then-code-spot-clause-refused c =
    let w = firmware_of c.args.firmware.now in
    let n = c.args.analysis.now.needs in
    let b = c.args.board.now in
    let groups = c.args.groups in
    let made = c.in-Ok.made in
    let planned = c.in-Ok.ensures.ok in
    let are = subst (AreCompartments (resolve w)) (sym planned.groups) c.requires.groups in
    let is = is_planned w n b groups made planned c.all_promises.ensures.serve c.firmware.ensures.typed c.firmware.ensures.within c.requires.needs c.requires.board are in
    let found = c.in-Some.ensures.lookup in
    too_long w n b groups made planned is c.args.compartment c.args.code.now c.in-Some.spot.now c.as_slice.result.now c.as_slice.ensures found.3.0 found.3.1 c.if-code-spot.true

pub returns-clause-ok : goal.returns-clause-ok
returns-clause-ok c =
    let w = firmware_of c.args.firmware.now in
    let n = c.args.analysis.now.needs in
    let b = c.args.board.now in
    let groups = c.args.groups in
    let made = c.in-Ok.made in
    let planned = c.in-Ok.ensures.ok in
    let are = subst (AreCompartments (resolve w)) (sym planned.groups) c.requires.groups in
    let is = is_planned w n b groups made planned c.all_promises.ensures.serve c.firmware.ensures.typed c.firmware.ensures.within c.requires.needs c.requires.board are in
    let found = c.in-Some.ensures.lookup in
    let all = c.all_promises.ensures in
    with_code w n b groups made planned is c.args.compartment c.args.code.now c.in-Some.spot.now c.as_slice.result.now c.as_slice.ensures found.3.0 found.3.1 c.if-code-spot.false
    all.kept all.rules_stay all.keep all.stay_isolated all.rules all.board c.in_ok-image.image c.in_ok-with_block.field-0 c.in_ok-image.ensures c.in_ok-with_block.ensures

use Rattle.std.proofs.Common.{false, ap, sym, subst, ◌∙◌}
use Rattle.std.proofs.lemmas.Result.{err_from_is_err_and}
use Rattle.ir_model.specs.Plain.{firmware_of}
use Rattle.ir_model.specs.Resolve.{resolve}
use Rattle.plan_model.specs.declared.groups.Groups.{Groups}
use Rattle.plan_compartments.specs.Divisions.{division}
use Rattle.plan_firmwares.specs.Analysed.{IsRefusalOf}
use Rattle.plan_firmwares.proofs.Analysing.{unplanned}
use Rattle.aces_compiler.specs.Compiled.{IsImageFor}
use Rattle.aces_compiler.proofs.Parts.{in_own_groups}
use Rattle.aces_compiler.proofs.pipeline.image_by.Goals as goal

pub returns-in_err-made-clause-refused : goal.returns-in_err-made-clause-refused
returns-in_err-made-clause-refused c =
    let b = c.args.board.now in
    let a = c.args.analysis.now in
    let x = err_from_is_err_and c.from_residual.result c.from_residual.ensures.1 in
    rw x.1 (unplanned c.args.policy (firmware_of c.args.firmware.now) b a c.requires.analysis x.0 (subst (IsRefusalOf a b) (sym x.2) c.in_err-made.ensures.refused))

pub promised_image-requires-clause-program : goal.promised_image-requires-clause-program
promised_image-requires-clause-program c = c.requires.analysis.program

pub promised_image-requires-clause-needs : goal.promised_image-requires-clause-needs
promised_image-requires-clause-needs c = c.requires.analysis.needs

pub promised_image-requires-clause-groups : goal.promised_image-requires-clause-groups
promised_image-requires-clause-groups c = (c.in_ok-made.ensures.ok c.args.policy (firmware_of c.args.firmware.now) c.requires.analysis).compartments

pub promised_image-requires-clause-planned : goal.promised_image-requires-clause-planned
promised_image-requires-clause-planned c =
    let w = firmware_of c.args.firmware.now in
    let n = c.args.analysis.now.needs in
    in_own_groups (resolve w) n c.args.board.now (division c.args.policy w n) c.in_ok-made.made (c.in_ok-made.ensures.ok c.args.policy w c.requires.analysis).planned

pub returns-clause-ok : goal.returns-clause-ok
returns-clause-ok c =
    let w = firmware_of c.args.firmware.now in
    let b = c.args.board.now in
    let a = c.requires.analysis in
    let n = c.args.analysis.now.needs in
    record {
      needs = n;
      are_needs = a.needs;
      image = subst (λ (g : Groups). IsImageFor w n b g c.in_ok-image.image) (c.in_ok-made.ensures.ok c.args.policy w a).planned.groups c.in_ok-image.ensures;
      as_source = λ compartments are.
          ap (λ (g : Groups). g.of) (c.divisions_are_one.ensures c.args.policy w b.closed false n are.needs a.needs are.are_needs) ∙ sym are.same;
    }

use Rattle.ir_model.specs.Plain.{PlainFirmware, firmware_of}
use Rattle.ir_model.specs.Typing.{Failing}
use Rattle.aces_explain.specs.Explanations.{check_told}
use Rattle.ir_check_details.specs.CheckLines.{check_lines}
use Rattle.aces_explain.specs.Answers.{ExplainAnswer, ill_typed}
use Rattle.aces_explain.proofs.Lines.{lines_are}
use Rattle.aces_explain.proofs.details.failing.Goals as goal

pub returns : goal.returns
returns c =
    let name = c.args.name.now in
    let bytes = c.args.bytes.now in
    let w : PlainFirmware = firmware_of c.args.firmware.now in
    let f : Failing = record { kind = c.args.kind.now; place = c.args.place.now } in
    let pos = c.in_ok-pos.pos in
    lines_are c.check_told.result (λ v. v.items) (ExplainAnswer name bytes) (check_told name bytes f pos (check_lines w f))
    (rw (c.as_bytes.ensures.value, c.as_slice.ensures.value, c.in_ok-details.ensures) at c.check_told.ensures)
    (ill_typed w f pos c.requires.is_text c.requires.first c.in_ok-pos.ensures)

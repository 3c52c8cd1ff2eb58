use Rattle.std.proofs.Common.{None}
use Rattle.aces_files.specs.Outcomes.{done}
use Rattle.aces_audit.specs.AnswerLine.{answer_line, answer_status}
use Rattle.aces_audit.specs.Answers.{AuditAnswer, told}
use Rattle.aces_audit.proofs.Guarding.{guarded}
use Rattle.aces_audit.proofs.asking.answer_output.Goals as goal

pub returns : goal.returns
returns c =
    let i = c.args.image.now in
    let a = c.in_ok-answer.answer in
    let is = c.in_ok-answer.ensures.answer in
    let held = guarded c.sound_images_are_guarded.ensures i a c.requires is in
    λ image bytes text.
    let all : AuditAnswer image bytes (done (answer_status a) (answer_line a) None) = told i a text is held in
    rw (c.done_by.ensures, c.in_ok-lines.ensures) all

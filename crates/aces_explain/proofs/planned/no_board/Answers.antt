use Rattle.std.proofs.Common.{◌∙◌, None, sym, subst}
use Rattle.ir_model.specs.Plain.{firmware_of}
use Rattle.aces_files.specs.Outcomes.{done}
use Rattle.aces_explain.specs.Plans.{ExplainPlanAnswer, no_board}
use Rattle.aces_explain.proofs.planned.no_board.Goals as goal

pub returns : goal.returns
returns c =
    subst (λ lines. ExplainPlanAnswer c.args.firmware.now c.args.board.now c.args.policy c.args.bytes.now c.args.text.now (done 1 lines None))
    (sym (rw c.as_bytes.ensures.value at c.in_ok-board_told.ensures))
    (no_board (firmware_of c.args.checked.now) c.args.fault.now c.requires.firmware (sym c.is_want_of_memory.ensures ∙ c.if-is_want_of_memory.false) c.requires.fault)

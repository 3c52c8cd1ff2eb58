use Rattle.std.proofs.Common.{sym, subst}
use Rattle.ir_model.specs.Plain.{firmware_of}
use Rattle.aces_explain.specs.Plans.{IsPlanTold, unplanned}
use Rattle.aces_explain.proofs.planned.refusal_output.Goals as goal

pub returns : goal.returns
returns c =
    let w = firmware_of c.args.firmware.now in
    let a = c.args.analysis in
    let h = c.requires.analysis in
    subst (λ s. IsPlanTold c.args.policy w c.args.board.now s c.in_ok-lines.lines.items) (sym c.in_ok-done.ensures)
    (unplanned a.needs c.args.refusal c.in_ok-lines.lines.items h.needs (c.requires.refused c.args.policy w h)
    (rw (c.firmware.ensures.same, c.into_parts-program.ensures.program, c.into_parts-program.ensures.needs, c.into_parts-program.ensures.groups, h.program, h.groups) at c.in_ok-lines.ensures))

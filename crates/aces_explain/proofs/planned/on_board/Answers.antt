use Rattle.std.proofs.Common.{sym, subst}
use Rattle.ir_model.specs.Plain.{firmware_of}
use Rattle.aces_explain.specs.Plans.{IsPlanTold, planned}
use Rattle.aces_explain.proofs.planned.on_board.Goals as goal

pub returns-in_ok-line_of_counts-in-Ok : goal.returns-in_ok-line_of_counts-in-Ok
returns-in_ok-line_of_counts-in-Ok c =
    let w = firmware_of c.args.firmware.now in
    subst (IsPlanTold c.args.policy w c.args.board.now 0) (sym c.in_ok-line_of_counts-in-Ok.ensures)
    (planned (record {
      needs = c.in_ok-analysis.analysis.needs;
      are_needs = c.in_ok-analysis.ensures.exact.needs;
      made = c.in-Ok.field-0;
      planned = (c.in-Ok.ensures.ok c.args.policy w c.in_ok-analysis.ensures.exact).planned;
    }))

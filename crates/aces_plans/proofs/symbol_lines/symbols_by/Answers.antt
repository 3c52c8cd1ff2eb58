use Rattle.std.proofs.Common.{sym, subst}
use Rattle.std.proofs.lemmas.Result.{err_from_is_err_and}
use Rattle.ir_model.specs.Plain.{firmware_of}
use Rattle.plan_firmwares.specs.Analysed.{IsRefusalOf}
use Rattle.plan_firmwares.proofs.Analysing.{unplanned}
use Rattle.aces_plans.proofs.symbol_lines.symbols_by.Goals as goal

pub returns-in_err-made-clause-refused : goal.returns-in_err-made-clause-refused
returns-in_err-made-clause-refused c =
    let b = c.args.board.now in
    let a = c.args.analysis.now in
    let x = err_from_is_err_and c.from_residual.result c.from_residual.ensures.1 in
    rw x.1 (unplanned c.args.policy (firmware_of c.args.firmware.now) b a c.requires.analysis x.0 (subst (IsRefusalOf a b) (sym x.2) c.in_err-made.ensures.refused))

pub symbols_of_plan-requires-clause-program : goal.symbols_of_plan-requires-clause-program
symbols_of_plan-requires-clause-program c = c.requires.analysis.program

pub returns-clause-ok : goal.returns-clause-ok
returns-clause-ok c =
    let w = firmware_of c.args.firmware.now in
    record {
      needs = c.args.analysis.now.needs;
      are_needs = c.requires.analysis.needs;
      made = c.in_ok-made.made;
      is_planned = (c.in_ok-made.ensures.ok c.args.policy w c.requires.analysis).planned;
      same = c.in_ok-lines.ensures;
    }

use Rattle.std.proofs.Common.{sym, subst}
use Rattle.std.proofs.lemmas.Result.{err_from_is_err_and}
use Rattle.ir_model.specs.Plain.{firmware_of}
use Rattle.plan_compartments.specs.Divisions.{division}
use Rattle.plan_firmwares.specs.Analysed.{IsRefusalOf}
use Rattle.plan_firmwares.proofs.Analysing.{unplanned}
use Rattle.plan_firmwares.proofs.Planned.{is_planned}
use Rattle.aces_plans.proofs.listings.listing_by.Goals as goal

pub returns-in_err-made-clause-refused : goal.returns-in_err-made-clause-refused
returns-in_err-made-clause-refused c =
    let b = c.args.board.now in
    let a = c.args.analysis.now in
    let x = err_from_is_err_and c.from_residual.result c.from_residual.ensures.1 in
    rw x.1 (unplanned c.args.policy (firmware_of c.args.firmware.now) b a c.requires.analysis x.0 (subst (IsRefusalOf a b) (sym x.2) c.in_err-made.ensures.refused))

pub listing_of_plan-requires-clause-program : goal.listing_of_plan-requires-clause-program
listing_of_plan-requires-clause-program c = c.requires.analysis.program

pub returns-clause-ok : goal.returns-clause-ok
returns-clause-ok c =
    let w = firmware_of c.args.firmware.now in
    let b = c.args.board.now in
    let a = c.requires.analysis in
    let n = c.args.analysis.now.needs in
    let made = c.in_ok-made.made in
    let plan = c.in_ok-made.ensures.ok c.args.policy w a in
    let is =
    is_planned w n b (division c.args.policy w n) made plan.planned c.least_sets.ensures.serve c.firmware.ensures.typed c.firmware.ensures.within
    a.needs c.requires.board plan.compartments
    in
    record {
      needs = n;
      are_needs = a.needs;
      made = made;
      is_planned = plan.planned;
      permitted = c.runs_stay_in_policy.ensures w n made.graph b is;
      needed = c.permissions_are_bounded.ensures w n made.graph b is;
      same = c.in_ok-lines.ensures;
    }

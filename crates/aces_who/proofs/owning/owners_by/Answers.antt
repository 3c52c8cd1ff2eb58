use Rattle.std.proofs.Common.{sym, subst}
use Rattle.std.proofs.lemmas.Result.{err_from_is_err_and}
use Rattle.ir_model.specs.Plain.{firmware_of}
use Rattle.plan_firmwares.specs.Analysed.{IsRefusalOf}
use Rattle.plan_firmwares.proofs.Analysing.{unplanned}
use Rattle.aces_who.specs.Owners.{subject_for}
use Rattle.aces_who.proofs.owning.owners_by.Goals as goal

pub returns-in_err-made-clause-refused : goal.returns-in_err-made-clause-refused
returns-in_err-made-clause-refused c =
    let b = c.args.board.now in
    let a = c.args.analysis.now in
    let x = err_from_is_err_and c.from_residual.result c.from_residual.ensures.1 in
    rw x.1 (unplanned c.args.policy (firmware_of c.args.firmware.now) b a c.requires.analysis x.0 (subst (IsRefusalOf a b) (sym x.2) c.in_err-made.ensures.refused))

pub lines_of-requires-clause-program : goal.lines_of-requires-clause-program
lines_of-requires-clause-program c = c.requires.analysis.program

pub returns-clause-ok : goal.returns-clause-ok
returns-clause-ok c =
    let w = firmware_of c.args.firmware.now in
    let n = c.args.analysis.now.needs in
    let made = c.in_ok-made.made in
    let s = subject_for w n made c.args.board.now in
    record {
      needs = n;
      are_needs = c.requires.analysis.needs;
      made = made;
      is_planned = (c.in_ok-made.ensures.ok c.args.policy w c.requires.analysis).planned;
      same = c.in_ok-lines.ensures;
      exposed = λ d x. (c.exposures_are_exact.ensures s d).1 x;
      sums = λ d. (c.exposures_are_exact.ensures s d).0;
    }

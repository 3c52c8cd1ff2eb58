use Rattle.std.proofs.Common.{sym, subst}
use Rattle.std.proofs.lemmas.Result.{IfOk-weaker}
use Rattle.ir_model.specs.Plain.{firmware_of}
use Rattle.ir_model.specs.Checked.{IsChecked}
use Rattle.ir_program.specs.Seen.{program_of}
use Rattle.ir_laws.specs.Limits.{AreFew}
use Rattle.need_sets.specs.Sets.{sets_of}
use Rattle.needs.proofs.Bounded.{small_numbers}
use Rattle.aces_why.proofs.finding.findings.Goals as goal

pub found_by-requires-clause-program : goal.found_by-requires-clause-program
found_by-requires-clause-program c = record { firmware = firmware_of c.args.firmware.now; typed = c.firmware.ensures.typed; within = c.firmware.ensures.within; is = c.requires }

pub found_by-requires-clause-sets : goal.found_by-requires-clause-sets
found_by-requires-clause-sets c =
    let p = program_of c.args.program.now in
    let checked : IsChecked p = record { firmware = firmware_of c.args.firmware.now; typed = c.firmware.ensures.typed; within = c.firmware.ensures.within; is = c.requires } in
    c.least_sets.ensures.serve p (sets_of c.in_ok-sets.sets) checked c.in_ok-sets.ensures

pub found_by-requires-clause-numbers : goal.found_by-requires-clause-numbers
found_by-requires-clause-numbers c =
    small_numbers (program_of c.args.program.now) (subst AreFew (sym c.requires) (c.counts.ensures (firmware_of c.args.firmware.now) c.firmware.ensures.within).program)

pub returns : goal.returns
returns c = IfOk-weaker c.found_by.result _ _ (λ x f. record { objects = sets_of c.in_ok-sets.sets; least = c.in_ok-sets.ensures; exact = f }) c.found_by.ensures

use Rattle.ir_model.specs.Plain.{firmware_of}
use Rattle.ir_program.specs.Seen.{program_of}
use Rattle.need_sets.specs.Sets.{sets_of}
use Rattle.plan_compartments.proofs.Analysing.{checked, needs_of, each_need}
use Rattle.plan_compartments.proofs.analysis.firmware_needs.Goals as goal

pub needs-requires-clause-program : goal.needs-requires-clause-program
needs-requires-clause-program c =
    checked (program_of c.args.program.now) (firmware_of c.args.firmware.now) c.firmware.ensures.typed c.firmware.ensures.within c.requires.program

pub needs-requires-clause-sets : goal.needs-requires-clause-sets
needs-requires-clause-sets c =
    let program = program_of c.args.program.now in
    c.least_sets.ensures.serve program (sets_of c.args.sets.now)
    (checked program (firmware_of c.args.firmware.now) c.firmware.ensures.typed c.firmware.ensures.within c.requires.program) c.requires.sets

pub returns-clause-exact : goal.returns-clause-exact
returns-clause-exact c =
    needs_of (program_of c.args.program.now) (firmware_of c.args.firmware.now) (sets_of c.args.sets.now) c.args.closed c.in_ok-found.found
    c.requires.program c.requires.sets c.in_ok-found.ensures.exact

pub returns-clause-each : goal.returns-clause-each
returns-clause-each c =
    each_need (program_of c.args.program.now) (firmware_of c.args.firmware.now) (sets_of c.args.sets.now) c.args.closed c.in_ok-found.found
    c.requires.program c.in_ok-found.ensures.exact

use Rattle.ir_model.specs.Plain.{firmware_of}
use Rattle.ir_program.specs.Seen.{program_of}
use Rattle.aces_stack.proofs.Facts.{sites_there}
use Rattle.aces_stack.proofs.answers.within.Goals as goal

pub bound-requires-clause-there : goal.bound-requires-clause-there
bound-requires-clause-there c =
    let a = c.args.analysis.now in
    sites_there (program_of a.program) (firmware_of c.args.firmware.now) c.args.board.now.closed a.needs c.places.ensures c.least_sets.ensures.serve c.functions_are_there.ensures
    c.requires.analysis.program c.firmware.ensures.typed c.firmware.ensures.within c.requires.analysis.needs

use Rattle.ir_model.specs.Plain.{firmware_of}
use Rattle.plan_firmwares.proofs.Analysing.{each_need}
use Rattle.aces_compiler.proofs.replacing.compile_with_code.Goals as goal

pub compartments_of-requires-clause-needs : goal.compartments_of-requires-clause-needs
compartments_of-requires-clause-needs g c = each_need (firmware_of c.args.firmware.now) c.args.board.now.closed c.args.analysis.now.needs c.requires.needs

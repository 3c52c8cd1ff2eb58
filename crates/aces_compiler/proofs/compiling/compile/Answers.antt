use Rattle.ir_model.specs.Plain.{firmware_of}
use Rattle.plan_firmwares.proofs.Analysing.{each_need}
use Rattle.aces_compiler.proofs.compiling.compile.Goals as goal

pub compartments_of-requires-clause-needs : goal.compartments_of-requires-clause-needs
compartments_of-requires-clause-needs g c = each_need (firmware_of c.args.firmware.now) c.args.board.now.closed c.args.analysis.now.needs c.requires.needs

pub returns-clause-ok : goal.returns-clause-ok
returns-clause-ok g c =
    record { groups = c.in_ok-groups.groups; by_answers = c.in_ok-groups.ensures.by; image = c.in_ok-image.ensures.ok }

use Rattle.ir_model.specs.Plain.{firmware_of}
use Rattle.ir_program.specs.Seen.{program_of}
use Rattle.ir_output.proofs.Begins as begins
use Rattle.ir_output.proofs.run_at_start.Goals as goal

pub returns-clause-run : goal.returns-clause-run
returns-clause-run c =
    begins.begun (firmware_of c.args.firmware.now) c.args.tape (program_of c.args.program.now) c.args.compartments.items c.in_ok-run.run'
    c.in_ok-run.ensures c.requires

pub start-requires : goal.start-requires
start-requires c =
    record {
      firmware = firmware_of c.args.firmware.now;
      typed = c.firmware.ensures.typed;
      within = c.firmware.ensures.within;
      is = c.requires;
    }

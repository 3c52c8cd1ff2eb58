use Rattle.ir_program.specs.Seen.{program_of}
use Rattle.ir_run.specs.States.{running_of}
use Rattle.ir_run.proofs.Checked.{first_run}
use Rattle.ir_run.proofs.run.SourceRun.start.Goals as goal

pub invariant_of-result : goal.invariant_of-result
invariant_of-result c =
    first_run c.frames.ensures (program_of c.args.program.now) c.new.result c.args.tape (running_of c.in_ok-parts.parts) c.requires c.in_ok-parts.ensures

use Rattle.std.proofs.Common.{◌∙◌, ap}
use Rattle.ir_model.specs.Plain.{firmware_of}
use Rattle.ir_model.specs.Resolve.{resolve}
use Rattle.ir_run.specs.Runs.{RunState}
use Rattle.ir_output.specs.SourceRuns.{ending_of}
use Rattle.ir_output.proofs.Begins.{goes_at_first}
use Rattle.aces_where.proofs.telling.halt_of_run.Goals as goal

pub run_out-requires-clause-first : goal.run_out-requires-clause-first
run_out-requires-clause-first c = ap (λ (r : RunState). r.taken) c.in_ok-run.ensures.run

pub run_out-requires-clause-begins : goal.run_out-requires-clause-begins
run_out-requires-clause-begins c =
    ap (λ (r : RunState). ending_of r.state) c.in_ok-run.ensures.run ∙ goes_at_first (resolve (firmware_of c.args.firmware.now)) c.args.tape

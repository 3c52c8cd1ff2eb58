use Rattle.std.proofs.Common.{ap, ◌∙◌, subst}
use Rattle.ir_run.specs.Runs.{RunState}
use Rattle.ir_output.specs.SourceRuns.{ending_of}
use Rattle.ir_output.proofs.Begins.{goes_at_first}
use Rattle.aces_selftest.specs.Counts.{IsSourceCount}
use Rattle.aces_selftest.specs.Answers.{source_limit}
use Rattle.aces_selftest.proofs.runs.count_of_run.Goals as goal

pub count_source-requires-clause-begins : goal.count_source-requires-clause-begins
count_source-requires-clause-begins c = ap (λ (r : RunState). ending_of r.state) c.in_ok-run.ensures ∙ goes_at_first _ c.args.tape

pub returns : goal.returns
returns c = subst (λ (r : RunState). IsSourceCount r.program r.compartments source_limit r.state c.in_ok-count.count) c.in_ok-run.ensures c.in_ok-count.ensures

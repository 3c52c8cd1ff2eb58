-- Two functions that call each other until a number is used up.
use Rattle.std.proofs.Common.{refl}
use Rattle.ir_model.specs.Typing.{fault_of, checks}
use Rattle.ir_model.specs.Layout.{known, cell_at}
use Rattle.ir_model.specs.Rules.{inst_fits, term_fits}
use Rattle.base_words.specs.Runs.{run, events}
use Rattle.ir_model.specs.Resolve.{resolve}
use Rattle.ir_model.specs.State.{start}
use Rattle.ir_model.specs.Step.{source_turn, act, perform, leave, binary, compared}
use Rattle.base_words.specs.Bytes.{cut}
use Rattle.example_machine.specs.Calls.{ComputesCalls}

pub computes_calls : ComputesCalls
unfolding fault_of checks known inst_fits term_fits run resolve start source_turn act perform leave cell_at cut binary compared events
computes_calls = record {
  typed = refl;
  ends = refl;
  tells = refl;
}

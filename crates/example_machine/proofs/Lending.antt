-- Lent locals: `main` lends the address of a local through one function to another, which stores to it.
use Rattle.std.proofs.Common.{refl}
use Rattle.ir_model.specs.Typing.{fault_of, checks}
use Rattle.ir_model.specs.Layout.{known, cell_at}
use Rattle.ir_model.specs.Rules.{inst_fits, term_fits}
use Rattle.base_words.specs.Runs.{run, events}
use Rattle.ir_model.specs.Resolve.{resolve}
use Rattle.ir_model.specs.State.{start}
use Rattle.ir_model.specs.Step.{source_turn, act, perform, leave, binary, compared}
use Rattle.base_words.specs.Bytes.{cut}
use Rattle.example_machine.specs.Lending.{ComputesLending}

pub computes_lending : ComputesLending
unfolding fault_of checks known inst_fits term_fits run resolve start source_turn act perform leave cell_at cut binary compared events
computes_lending = record {
  typed = refl;
  ends = refl;
  tells = refl;
  leak_typed = refl;
  leak_ends = refl;
}

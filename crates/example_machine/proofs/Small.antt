-- Small firmwares of one function, and arithmetic.
use Rattle.std.proofs.Common.{refl}
use Rattle.ir_model.specs.Typing.{fault_of, checks}
use Rattle.ir_model.specs.Layout.{known, cell_at}
use Rattle.ir_model.specs.Rules.{inst_fits, term_fits}
use Rattle.base_words.specs.Runs.{run, events}
use Rattle.ir_model.specs.Resolve.{resolve}
use Rattle.ir_model.specs.State.{start}
use Rattle.ir_model.specs.Step.{source_turn, act, perform, leave, binary, compared}
use Rattle.base_words.specs.Bytes.{cut}
use Rattle.base_words.specs.Arithmetic.{unsigned_quotient, signed_quotient, signed_remainder, unsigned_remainder, shift_left, shift_right_signed}
use Rattle.example_machine.specs.Small.{ComputesSmall}

pub computes_small : ComputesSmall
unfolding fault_of checks known inst_fits term_fits run resolve start source_turn act perform leave cell_at cut binary compared events unsigned_quotient signed_quotient signed_remainder unsigned_remainder shift_left shift_right_signed
computes_small = record {
  pokes_typed = refl;
  pokes_ends = refl;
  pokes_tells = refl;
  overruns_typed = refl;
  overruns_ends = refl;
  spoils_typed = refl;
  spoils_ends = refl;
  spoils_nothing = refl;
  by_zero = refl;
  signed_by_zero = refl;
  least_by_minus_one = refl;
  towards_zero = refl;
  nothing_left = refl;
  left_by_zero = refl;
  shifted_out = refl;
  shifted_by_low_byte = refl;
  only_signs = refl;
}

use Rattle.std.proofs.Common.{◌≡◌, ◌∙◌}
use Rattle.std.specs.Prelude.{bit_and}
use Rattle.std.proofs.lemmas.Nat.Bits.{and_pow}
use Rattle.bitflags.proofs.OnLiterals.{bitflags_on_literals}
use Rattle.machine_model.proofs.fault_registers.HandlerControl.kept.Goals as goal

pub returns : goal.returns
unfolding bitflags_on_literals
returns c =
    let known : c.from_bits_truncate.result.0 ≡ bit_and c.args.value 0x10000 = c.from_bits_truncate.ensures tt in
    known ∙ and_pow c.args.value 16

use Rattle.std.proofs.Common.{◌≡◌, ◌∙◌}
use Rattle.std.specs.Prelude.{bit_and}
use Rattle.std.proofs.lemmas.Nat.{and_mask}
use Rattle.bitflags.proofs.OnLiterals.{bitflags_on_literals}
use Rattle.machine_protection.proofs.control.control_of.Goals as goal

pub returns : goal.returns
unfolding bitflags_on_literals
returns c =
    let known : c.from_bits_truncate.result.0 ≡ bit_and c.args.value 7 = c.from_bits_truncate.ensures tt in
    known ∙ and_mask c.args.value 3

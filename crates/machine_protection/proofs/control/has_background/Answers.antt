use Rattle.std.proofs.Common.{◌≡◌, ℕ, ◌*◌, ◌/◌, ◌%◌, nat_eq, ap, ◌∙◌, arith}
use Rattle.std.proofs.lemmas.Nat.Bits.{and_pow}
use Rattle.std.proofs.lemmas.Bool.Decides.{nat_tests}
use Rattle.machine_protection.proofs.control.has_background.Goals as goal

by_four : (n : ℕ) → nat_eq (n * 4) 4 ≡ nat_eq n 1
by_four n = grind (arith, nat_tests)

pub returns : goal.returns
returns c = c.contains.ensures tt ∙ ap (λ n. nat_eq n 4) (and_pow c.args.control.0 2) ∙ by_four (c.args.control.0 / 4 % 2)

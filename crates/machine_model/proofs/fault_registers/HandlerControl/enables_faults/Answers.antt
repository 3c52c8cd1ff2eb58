use Rattle.std.proofs.Common.{◌≡◌, ℕ, ◌*◌, ◌/◌, ◌%◌, ◌^◌, nat_eq, ap, ◌∙◌, arith}
use Rattle.std.proofs.lemmas.Nat.Bits.{and_pow}
use Rattle.std.proofs.lemmas.Bool.Decides.{nat_tests}
use Rattle.machine_model.proofs.fault_registers.HandlerControl.enables_faults.Goals as goal

by_bit : (n : ℕ) → nat_eq (n * 2 ^ 16) 0x10000 ≡ nat_eq n 1
by_bit n = grind (arith, nat_tests)

pub returns : goal.returns
returns c =
    let word : c.self.inside.set.0 ≡ c.args.self = c.self.view_is in
    c.contains.ensures tt ∙ ap (λ n. nat_eq n 0x10000) (and_pow c.self.inside.set.0 16) ∙ by_bit (c.self.inside.set.0 / 2 ^ 16 % 2)
    ∙ ap (λ n. nat_eq (n / 2 ^ 16 % 2) 1) word

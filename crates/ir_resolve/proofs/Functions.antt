-- A numbered function is made of its parts.
use Rattle.std.proofs.Common.{◌≡◌}
use Rattle.ir_model.specs.Resolved.{NumberedFunc}

pub same_function : (f g : NumberedFunc) → f.params ≡ g.params → f.outcome ≡ g.outcome → f.regs ≡ g.regs → f.locals ≡ g.locals → f.blocks ≡ g.blocks → f ≡ g
same_function f g a b c d e =
    λ i. record { params = a i; outcome = b i; regs = c i; locals = d i; blocks = e i }

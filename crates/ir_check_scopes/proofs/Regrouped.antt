-- Checks in other groups.
use Rattle.std.proofs.Common.{◌≡◌, [], ◌∷◌, ◌++◌, Option, sym, ◌∙◌, append_assoc}
use Rattle.ir_model.specs.Typing.{Checks, Failing}

pub regroup : (a b c : Checks) (x : Option Failing) → (a ++ (x ∷ b)) ++ c ≡ (a ++ x ∷ []) ++ (b ++ c)
regroup a b c x = append_assoc a (x ∷ b) c ∙ sym (append_assoc a (x ∷ []) (b ++ c))

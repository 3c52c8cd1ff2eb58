use Rattle.std.proofs.Common.{◌≡◌, List, ◌∷◌, Option, Some, None, refl}
use Rattle.plan_model.specs.Choices.{first_some}

pub none_first : {X : Type 0} (o : Option X) (os : List (Option X)) → first_some (o ∷ os) ≡ None → (o ≡ None) × (first_some os ≡ None)
none_first None os e = (refl, e)
none_first (Some x) os e = absurd (let f : Some x ≡ None = e in cc)

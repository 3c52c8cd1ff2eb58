-- Lines that are those of an answer.
use Rattle.std.proofs.Common.{◌≡◌, ℕ, List, Result, Ok, Err, None, IfOk, sym, subst}
use Rattle.aces_files.specs.Outcomes.{Outcome, done}

pub lines_are : {V E : Type 0} (r : Result V E) (items : V → List ℕ) (A : Outcome → Type 0) (lines : List ℕ)
    → IfOk r (λ v. items v ≡ lines) → A (done 1 lines None) → IfOk r (λ v. A (done 1 (items v) None))
lines_are (Ok v) items A lines e a = subst (λ x. A (done 1 x None)) (sym e) a
lines_are (Err e) items A lines h a = tt

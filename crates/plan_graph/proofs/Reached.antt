-- Whether one of a compartment's functions passes a test.
use Rattle.std.proofs.Common.{◌≡◌, ℕ, ◌+◌, Bool, false, ◌||◌, [], ◌∷◌, ap, ◌∙◌}
use Rattle.std.specs.List.{list_any}
use Rattle.std.proofs.lemmas.List.Folds.{list_any-append}
use Rattle.plan_model.specs.Lists.{numbers_below}
use Rattle.plan_model.proofs.Numbers.{numbers_more}

-- no number up to here passes the test
pub none_more : (test : ℕ → Bool) (i : ℕ) → list_any test (numbers_below i) ≡ false → test i ≡ false → list_any test (numbers_below (i + 1)) ≡ false
none_more test i h e =
    ap (list_any test) (numbers_more i) ∙ (list_any-append test (numbers_below i) (i ∷ []) ∙ (ap (λ b. b || (test i || false)) h ∙ ap (λ b. b || false) e))

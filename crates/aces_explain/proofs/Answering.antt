-- No answer to `explain` writes anything.
use Rattle.std.proofs.Common.{◌≡◌, ℕ, List, None, refl}
use Rattle.aces_files.specs.Outcomes.{Outcome}
use Rattle.aces_explain.specs.Answers.{ExplainAnswer, not_utf8, unexpected, passed, ill_typed, fine}

pub explain_writes_nothing : (firmware bytes : List ℕ) (o : Outcome) → ExplainAnswer firmware bytes o → o.written ≡ None
explain_writes_nothing firmware bytes o (not_utf8 at h) = refl
explain_writes_nothing firmware bytes o (unexpected pos h) = refl
explain_writes_nothing firmware bytes o (passed excess pos h) = refl
explain_writes_nothing firmware bytes o (ill_typed w f pos h k p) = refl
explain_writes_nothing firmware bytes o (fine w h) = refl

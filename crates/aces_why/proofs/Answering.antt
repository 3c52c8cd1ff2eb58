-- No answer to `why` writes anything.
use Rattle.std.proofs.Common.{◌≡◌, ℕ, List, None, refl}
use Rattle.aces_files.specs.Outcomes.{Outcome}
use Rattle.aces_why.specs.Answers.{WhyAnswer, no_firmware, told}

pub why_writes_nothing : (firmware bytes : List ℕ) (o : Outcome) → WhyAnswer firmware bytes o → o.written ≡ None
why_writes_nothing firmware bytes o (no_firmware f h) = refl
why_writes_nothing firmware bytes o (told w lines h k) = refl

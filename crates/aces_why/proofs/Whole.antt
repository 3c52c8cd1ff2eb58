-- All lines, put one part behind the other.
use Rattle.std.proofs.Common.{◌≡◌, ℕ, List, ◌++◌, ap, ◌∙◌, append_assoc}
use Rattle.aces_why.specs.Subjects.{Subject}
use Rattle.aces_why.specs.Lines.{use_lines}
use Rattle.aces_why.specs.Shared.{shared_lines}
use Rattle.aces_why.specs.Warnings.{warning_lines}
use Rattle.aces_why.specs.Told.{reach_lines}

pub all_put : (s : Subject) (old used shared whole : List ℕ) → used ≡ old ++ use_lines s → shared ≡ used ++ shared_lines s → whole ≡ shared ++ warning_lines s → whole ≡ old ++ reach_lines s
all_put s old used shared whole u h w =
    w ∙ (ap (λ t. t ++ warning_lines s) (h ∙ (ap (λ t. t ++ shared_lines s) u ∙ append_assoc old (use_lines s) (shared_lines s))) ∙ append_assoc old (use_lines s ++ shared_lines s) (warning_lines s))

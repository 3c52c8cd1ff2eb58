-- Answers to self-tests: they are the same whatever is known of files, write none, and end with 0 or 7 where the firmware has a plan.
use Rattle.std.proofs.Common.{◌≡◌, ℕ, ◌⊎◌, inl, inr, List, Bool, true, false, None, refl}
use Rattle.plan_model.specs.declared.policy.Policy.TheVariants.{Filename}
use Rattle.aces_words.specs.Requests.{Origin}
use Rattle.aces_files.specs.Outcomes.{Outcome}
use Rattle.plan_firmwares.specs.Laws.{RefusalsAndPlansExclude}
use Rattle.plan_firmwares.specs.Plannable.{IsPlannable}
use Rattle.ir_generator.specs.Made.{made}
use Rattle.plan.specs.declared.refusal.PlanningRefusal.TheVariants as planning
use Rattle.aces_selftest.specs.TestBoard.{test_board}
use Rattle.aces_selftest.specs.Lines.{verdict_status}
use Rattle.aces_selftest.specs.Answers.{AnswerToSelftest, too_many, lacks_room, tested}
use Rattle.aces_selftest.proofs.Same.{excluded}

pub selftest_also : (Has Had : Origin → List ℕ → Type 0) (Exceeds Exceeded : Origin → Type 0) (seed size : ℕ) (o : Outcome)
    → AnswerToSelftest seed size Has Exceeds o → AnswerToSelftest seed size Had Exceeded o
selftest_also Has Had Exceeds Exceeded seed size o a = a

pub selftest_writes_nothing : (Has : Origin → List ℕ → Type 0) (Exceeds : Origin → Type 0) (seed size : ℕ) (o : Outcome) → AnswerToSelftest seed size Has Exceeds o → o.written ≡ None
selftest_writes_nothing Has Exceeds seed size o (too_many which count h) = refl
selftest_writes_nothing Has Exceeds seed size o (lacks_room lack h) = refl
selftest_writes_nothing Has Exceeds seed size o (tested i by n m alike take decides) = refl

zero_or_seven : (alike : Bool) → (verdict_status alike ≡ 0) ⊎ (verdict_status alike ≡ 7)
zero_or_seven true = inl refl
zero_or_seven false = inr refl

pub selftest_ends : RefusalsAndPlansExclude → (Has : Origin → List ℕ → Type 0) (Exceeds : Origin → Type 0) (seed size : ℕ) (o : Outcome)
    → IsPlannable Filename (made seed size) test_board → AnswerToSelftest seed size Has Exceeds o → (o.status ≡ 0) ⊎ (o.status ≡ 7)
selftest_ends law Has Exceeds seed size o plan (too_many which count h) = absurd (excluded law seed size plan (planning.Limit which count) (λ e. cc) h)
selftest_ends law Has Exceeds seed size o plan (lacks_room lack h) = absurd (excluded law seed size plan (planning.Room lack) (λ e. cc) h)
selftest_ends law Has Exceeds seed size o plan (tested i by n m alike take decides) = zero_or_seven alike

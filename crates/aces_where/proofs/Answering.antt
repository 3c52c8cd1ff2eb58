-- No answer to `where` writes anything.
use Rattle.std.proofs.Common.{◌≡◌, ℕ, List, None, refl}
use Rattle.plan_model.specs.declared.policy.Policy.{Policy}
use Rattle.aces_files.specs.Outcomes.{Outcome}
use Rattle.aces_where.specs.Answers.{WhereAnswer, no_firmware, no_tape, stands}

pub where_writes_nothing : (firmware : List ℕ) (policy : Policy) (tape : List ℕ) (limit : ℕ) (bytes text : List ℕ) (o : Outcome)
    → WhereAnswer firmware policy tape limit bytes text o → o.written ≡ None
where_writes_nothing firmware policy tape limit bytes text o (no_firmware f h) = refl
where_writes_nothing firmware policy tape limit bytes text o (no_tape w f h k) = refl
where_writes_nothing firmware policy tape limit bytes text o (stands w compartments lines h n a t) = refl

use Rattle.std.proofs.Common.{⊎_elim, arith}
use Rattle.plan_model.proofs.plan.Board.slots.Goals as goal

pub returns-clause-two : goal.returns-clause-two
returns-clause-two c h = ⊎_elim (λ e. omega (arith, e, c.saturating_sub.ensures)) (λ e. omega (arith, e, c.saturating_sub.ensures)) h.regions

pub returns-clause-few : goal.returns-clause-few
returns-clause-few c h = ⊎_elim (λ e. omega (arith, e, c.saturating_sub.ensures)) (λ e. omega (arith, e, c.saturating_sub.ensures)) h.regions

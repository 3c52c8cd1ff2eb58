use Rattle.std.proofs.Common.{ℕ, nat_eq, eq-eqb, ap, ◌∙◌, arith}
use Rattle.std.specs.List.{position}
use Rattle.plan_layout.proofs.Searches.{position_here, position_none}
use Rattle.plan_layout.proofs.numbers.first_greatest.Goals as goal

pub returns-then-number-most : goal.returns-then-number-most
returns-then-number-most c =
    position_here (λ n. nat_eq n c.greatest-most.result) c.args.numbers.now c.loop-place.place 0 c.loop-place-test.true c.loop-place.invariant (eq-eqb _ _ c.if-number-most.true)
    ∙ ap (λ (most : ℕ). position (λ n. nat_eq n most) c.args.numbers.now) c.greatest-most.ensures

pub returns : goal.returns
returns c =
    position_none (λ n. nat_eq n c.greatest-most.result) c.args.numbers.now 0 (λ k l. c.loop-place.invariant k (omega arith))
    ∙ ap (λ (most : ℕ). position (λ n. nat_eq n most) c.args.numbers.now) c.greatest-most.ensures

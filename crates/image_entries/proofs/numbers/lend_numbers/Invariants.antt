use Rattle.std.proofs.Common.{◌≡◌, ◌<◌, ℕ, map, position, All, IfSome, Option}
use Rattle.plan_model.specs.Lists.{numbers_below}
use Rattle.plan_model.specs.Lending.{is_local}
use Rattle.image_entries.proofs.numbers.lend_numbers.Given as goal

abbrev pub invariant-loop-local : goal.invariant-loop-local
invariant-loop-local l =
    record {
      exact : l.numbers.items ≡ map (λ k. position (is_local l.func k) l.lent) (numbers_below l.local);
      small : All (λ (n : Option ℕ). IfSome n (λ k. k < 32)) l.numbers.items;
    }

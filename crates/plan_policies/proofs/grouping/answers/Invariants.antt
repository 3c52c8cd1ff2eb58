use Rattle.std.proofs.Common.{◌<◌, take}
use Rattle.std.specs.List.{All}
use Rattle.std.specs.Fn.{FnReturnsAt}
use Rattle.plan_policies.specs.Callbacks.{AreAnswers}
use Rattle.plan_policies.proofs.grouping.answers.Given as goal

abbrev pub invariant-loop-i : goal.invariant-loop-i
invariant-loop-i g l = record {
  answers : AreAnswers (FnReturnsAt g.F.Fn l.grouping.callback) (take l.i l.facts) l.groups.items;
  below : All (λ k. k < l.grouping.count) l.groups.items;
}

use Rattle.std.proofs.Common.{◌<◌, ℕ, position, All, IfSome, Option, sym, subst}
use Rattle.std.proofs.lemmas.List.Elements.{All-push}
use Rattle.plan_model.specs.Lending.{is_local}
use Rattle.image_entries.proofs.numbers.lend_numbers.Goals as goal
use Rattle.plan_model.proofs.Numbers.{mapped_more}

pub loop-local-preserved : goal.loop-local-preserved
loop-local-preserved c = record {
  exact = mapped_more (λ k. position (is_local c.args.func k) c.args.lent.now) c.loop-local.local c.loop-local.numbers.items _ c.lend_number.result c.loop-local.invariant.exact c.lend_number.ensures.exact c.in_ok-push.ensures.items;
  small =
      let P : Option ℕ → Type 0 = λ n. IfSome n (λ k. k < 32) in
      subst (All P) (sym c.in_ok-push.ensures.items) (All-push P c.loop-local.numbers.items c.lend_number.result c.loop-local.invariant.small c.lend_number.ensures.small);
}

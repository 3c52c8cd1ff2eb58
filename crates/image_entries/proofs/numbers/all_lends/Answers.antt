use Rattle.std.proofs.Common.{◌<◌, ℕ, List, length, map, position, All, IfSome, Option, ap, sym, ◌∙◌, subst}
use Rattle.std.proofs.lemmas.List.Elements.{All-push}
use Rattle.plan_model.specs.Lists.{numbers_below}
use Rattle.plan_model.specs.Lending.{is_local}
use Rattle.ir_model.specs.Resolved.{func_at}
use Rattle.ir_program.specs.Seen.{program_of}
use Rattle.image_entries.proofs.numbers.all_lends.Goals as goal
use Rattle.plan_model.proofs.Numbers.{mapped_more}

pub loop-func-preserved : goal.loop-func-preserved
loop-func-preserved c = record {
  exact = mapped_more (λ h. map (λ k. position (is_local h k) c.args.lent.now) (numbers_below (length (func_at (program_of c.args.program.now) h).locals))) c.loop-func.func c.loop-func.all.items _ _ c.loop-func.invariant.exact
      (c.new.ensures ∙ c.in_ok-lend_numbers.ensures.exact ∙ ap (λ n. map (λ k. position (is_local c.loop-func.func k) c.args.lent.now) (numbers_below n)) c.local_count-locals.ensures) c.in_ok-push.ensures.items;
  small =
      let P : List (Option ℕ) → Type 0 = λ ns. All (λ (n : Option ℕ). IfSome n (λ k. k < 32)) ns in
      let x : P c.new.result = subst P (sym c.new.ensures) c.in_ok-lend_numbers.ensures.small in
      subst (All P) (sym c.in_ok-push.ensures.items) (All-push P c.loop-func.all.items c.new.result c.loop-func.invariant.small x);
}

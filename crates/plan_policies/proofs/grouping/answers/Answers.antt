use Rattle.std.proofs.Common.{◌≡◌, ℕ, ◌<◌, ◌+◌, List, [], ◌∷◌, ◌++◌, length, get_or, take, subst, sym, ap, ◌∙◌}
use Rattle.std.specs.Fn.{FnReturnsAt}
use Rattle.std.specs.List.{All, AllZip}
use Rattle.std.proofs.lemmas.List.{take_more}
use Rattle.std.proofs.lemmas.List.Elements.{All-push}
use Rattle.plan_policies.proofs.grouping.answers.Goals as goal
use Rattle.base_laws.proofs.Lists.{zip_pushed as zip_push}

zip_more : {A B : Type 0} (R : A → B → Type 0) (xs : List A) (ys zs : List B) (i : ℕ) (x : A) (y : B) → i < length xs → x ≡ get_or xs i x → AllZip R (take i xs) ys → R x y → zs ≡ ys ++ y ∷ []
    → AllZip R (take (i + 1) xs) zs
zip_more R xs ys zs i x y l e h r f =
    subst (λ ws. AllZip R ws zs) (sym (take_more xs i x l ∙ ap (λ w. take i xs ++ w ∷ []) (sym e))) (subst (AllZip R (take i xs ++ x ∷ [])) (sym f) (zip_push R (take i xs) ys x y h r))

pub loop-i-preserved : goal.loop-i-preserved
loop-i-preserved g c = record {
  answers = zip_more (FnReturnsAt g.F.Fn c.args.grouping.now.callback) c.args.facts.now c.loop-i.groups.items _ c.loop-i.i c.index-facts-i.result c.group.result c.loop-i-test.true c.index-facts-i.is c.loop-i.invariant.answers c.group.ensures.answer c.in_ok-push.ensures.items;
  below = subst (All (λ k. k < c.args.grouping.now.count)) (sym c.in_ok-push.ensures.items) (All-push (λ k. k < c.args.grouping.now.count) c.loop-i.groups.items c.group.result c.loop-i.invariant.below c.group.ensures.below);
}

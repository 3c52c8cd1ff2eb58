-- The order of names, and lists in an order that are seen otherwise.
use Rattle.std.proofs.Common.{◌≡◌, Bool, true, false, ℕ, List, [], ◌∷◌, cond, map, refl, sym, ap, ◌∙◌, Bor}
use Rattle.std.specs.declared.cmp.Ordering.{Ordering}
use Rattle.std.specs.declared.cmp.Ordering.TheVariants.{Less, Equal, Greater}
use Rattle.std.specs.Ordering.{nat_cmp, is_lt, is_gt, ordering_reverse}
use Rattle.std.specs.Cmp.{IsStrictWeakOrder}
use Rattle.std.specs.Cmp.Lexicographic.{slice_cmp}
use Rattle.std.proofs.lemmas.Cmp.{nat_list_cmp_total, upto}
use Rattle.plan_model.specs.declared.groups.FuncFacts.{FuncFacts}
use Rattle.plan_model.specs.Lists.{placed, in_order}

abbrev pub named_before : FuncFacts → FuncFacts → Bool
named_before a b = is_lt (slice_cmp nat_cmp a.name b.name)

turned : (o : Ordering) → is_lt (ordering_reverse o) ≡ is_gt o
turned Less = refl
turned Equal = refl
turned Greater = refl

one_way : (o : Ordering) → is_lt o ≡ true → is_lt (ordering_reverse o) ≡ false
one_way Less e = refl
one_way Equal e = refl
one_way Greater e = cc

abbrev compare : List ℕ → List ℕ → Ordering
compare = slice_cmp nat_cmp

back : (x y : List ℕ) → is_lt (compare x y) ≡ is_gt (compare y x)
back x y = ap is_lt (nat_list_cmp_total.antisymm x y) ∙ turned (compare y x)

pub named_weakly : IsStrictWeakOrder (λ (a b : Bor FuncFacts). named_before a.now b.now)
named_weakly = record {
  one_way = λ a b e. ap is_lt (nat_list_cmp_total.antisymm b.now.name a.now.name) ∙ one_way (compare a.now.name b.now.name) e;
  chain = λ a b c e f. back a.now.name c.now.name ∙ upto nat_list_cmp_total c.now.name b.now.name a.now.name (sym (back b.now.name c.now.name) ∙ f) (sym (back a.now.name b.now.name) ∙ e);
}

-- ---- lists in an order

module _ {X Y : Type 0} (f : X → Y) (lt : Y → Y → Bool) where
  placed_seen : (x : X) (ys : List X) → map f (placed (λ a b. lt (f a) (f b)) x ys) ≡ placed lt (f x) (map f ys)
  placed_seen x [] = refl
  placed_seen x (y ∷ ys) = by (lt (f y) (f x)) (placed_seen x ys)
    where
      by : (b : Bool) → map f (placed (λ a b. lt (f a) (f b)) x ys) ≡ placed lt (f x) (map f ys)
          → map f (cond b (y ∷ placed (λ a b. lt (f a) (f b)) x ys) (x ∷ y ∷ ys)) ≡ cond b (f y ∷ placed lt (f x) (map f ys)) (f x ∷ f y ∷ map f ys)
      by true ih = ap (λ zs. f y ∷ zs) ih
      by false ih = refl

  pub in_order_seen : (xs : List X) → map f (in_order (λ a b. lt (f a) (f b)) xs) ≡ in_order lt (map f xs)
  in_order_seen [] = refl
  in_order_seen (x ∷ xs) = placed_seen x (in_order (λ a b. lt (f a) (f b)) xs) ∙ ap (placed lt (f x)) (in_order_seen xs)

-- Lists that are determined: by what they list in an order, by their items one by one, and by what each item goes with.
use Rattle.std.proofs.Common.{◌≡◌, ℕ, zero, suc, ◌<◌, List, [], ◌∷◌, length, get_or, true≢false, refl, sym, ap, subst, ◌∙◌, inl, inr, arith}
use Rattle.std.specs.Prelude.{◌⊎◌, Contains}
use Rattle.std.specs.List.{AllZip, AllByRecursion}
use Rattle.std.specs.List.Sorted.{IsStrictlySortedBy}
use Rattle.std.specs.Cmp.{IsTotalOrder}
use Rattle.std.specs.Ordering.{is_lt, ordering_reverse}
use Rattle.std.specs.declared.cmp.Ordering.{Ordering}
use Rattle.std.specs.declared.cmp.Ordering.TheVariants.{Less}
use Rattle.std.proofs.lemmas.List.Elements.{All-contains, All-from_recursion}
use Rattle.plan_model.specs.Lists.{ListsExactly}
use Rattle.need_lists.proofs.Parts.{cases, head, in_none, tail}

-- ---- by an order

module _ {X : Type 0} {cmp : X → X → Ordering} (order : IsTotalOrder cmp) where
  never_both : (x y : X) → cmp x y ≡ Less → cmp y x ≡ Less → ⊥
  never_both x y p q = true≢false (ap is_lt (sym p ∙ (order.antisymm x y ∙ ap ordering_reverse q)))

  below : (x : X) (xs : List X) → AllByRecursion (λ y. cmp x y ≡ Less) xs → (y : X) → Contains xs y → cmp x y ≡ Less
  below x xs a y c = All-contains (λ z. cmp x z ≡ Less) xs y (All-from_recursion (λ z. cmp x z ≡ Less) xs a) c

  same_head : (x y : X) (xs ys : List X) → AllByRecursion (λ z. cmp x z ≡ Less) xs → AllByRecursion (λ z. cmp y z ≡ Less) ys → Contains (y ∷ ys) x → Contains (x ∷ xs) y → x ≡ y
  same_head x y xs ys a b f g = by (cases y x ys f) (cases x y xs g)
    where
      by : (y ≡ x) ⊎ Contains ys x → (x ≡ y) ⊎ Contains xs y → x ≡ y
      by (inl e) _ = sym e
      by (inr c) (inl e) = e
      by (inr c) (inr d) = absurd (never_both x y (below x xs a y d) (below y ys b x c))

  -- what stands behind a first item stands behind the same one
  behind : (x y : X) (xs ys : List X) → x ≡ y → AllByRecursion (λ z. cmp x z ≡ Less) xs → ((z : X) → Contains (x ∷ xs) z → Contains (y ∷ ys) z) → (z : X) → Contains xs z → Contains ys z
  behind x y xs ys e a f z c = by (cases y z ys (f z (tail x z xs c)))
    where
      by : (y ≡ z) ⊎ Contains ys z → Contains ys z
      by (inl d) = let l : cmp z z ≡ Less = subst (λ v. cmp v z ≡ Less) (e ∙ d) (below x xs a z c) in absurd (never_both z z l l)
      by (inr d) = d

  one_order : (xs ys : List X) → IsStrictlySortedBy cmp xs → IsStrictlySortedBy cmp ys → ((z : X) → Contains xs z → Contains ys z) → ((z : X) → Contains ys z → Contains xs z) → xs ≡ ys
  unfolding IsStrictlySortedBy
  one_order [] [] a b f g = refl
  one_order [] (y ∷ ys) a b f g = absurd (in_none y (g y (head y ys)))
  one_order (x ∷ xs) [] a b f g = absurd (in_none x (f x (head x xs)))
  one_order (x ∷ xs) (y ∷ ys) a b f g =
      let e : x ≡ y = same_head x y xs ys a.0 b.0 (f x (head x xs)) (g y (head y ys)) in
      let rest = one_order xs ys a.1 b.1 (behind x y xs ys e a.0 f) (behind y x ys xs (sym e) b.0 g) in
      λ i. e i ∷ rest i

  -- there is one list of exactly the same things
  pub one_list : (P Q : X → Type 0) (xs ys : List X) → ((x : X) → P x → Q x) → ((x : X) → Q x → P x) → ListsExactly cmp P xs → ListsExactly cmp Q ys → xs ≡ ys
  one_list P Q xs ys to from a b = one_order xs ys a.rising b.rising (λ z c. b.all z (to z (a.each z c))) (λ z c. a.all z (from z (b.each z c)))

-- ---- item by item

pub one_by_one : {X : Type 0} (d : X) (xs ys : List X) → length xs ≡ length ys → ((k : ℕ) → k < length xs → get_or xs k d ≡ get_or ys k d) → xs ≡ ys
one_by_one d [] [] e h = refl
one_by_one d [] (y ∷ ys) e h = let no : ⊥ = omega (arith, e) in absurd no
one_by_one d (x ∷ xs) [] e h = let no : ⊥ = omega (arith, e) in absurd no
one_by_one d (x ∷ xs) (y ∷ ys) e h =
    let first = h zero (omega arith) in
    let rest = one_by_one d xs ys (omega (arith, e)) (λ k l. h (suc k) (omega (arith, l))) in
    λ i. first i ∷ rest i

-- what goes with each item of a list, where it is determined by that
pub one_partner : {A B : Type 0} (R Q : A → B → Type 0) (xs : List A) (ys zs : List B) → ((x : A) (y z : B) → R x y → Q x z → y ≡ z) → AllZip R xs ys → AllZip Q xs zs → ys ≡ zs
one_partner R Q [] [] [] one a b = refl
one_partner R Q [] [] (z ∷ zs) one a b = absurd b
one_partner R Q [] (y ∷ ys) zs one a b = absurd a
one_partner R Q (x ∷ xs) [] zs one a b = absurd a
one_partner R Q (x ∷ xs) (y ∷ ys) [] one a b = absurd b
one_partner R Q (x ∷ xs) (y ∷ ys) (z ∷ zs) one a b =
    let first = one x y z a.0 b.0 in
    let rest = one_partner R Q xs ys zs one a.1 b.1 in
    λ i. first i ∷ rest i

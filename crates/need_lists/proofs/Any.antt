-- What holds of one of the items that a loop has passed.
use Rattle.std.proofs.Common.{◌≡◌, ◌↔◌, ℕ, ◌+◌, ◌<◌, ◌≤◌, List, [], ◌∷◌, ◌++◌, length, take, get_or, sym, subst, inl, inr}
use Rattle.std.specs.Prelude.{◌⊎◌, Contains}
use Rattle.std.proofs.lemmas.List.{take_all}
use Rattle.std.proofs.lemmas.List.Elements.{Contains-append_left, Contains-push, Contains-push_cases}
use Rattle.need_lists.specs.AnyOf.{AnyOf}
use Rattle.base_laws.proofs.Lists.{take_next as same_take}

behind : {X : Type 0} (P : X → Type 0) (xs : List X) (x : X) → AnyOf P (xs ++ x ∷ []) → AnyOf P xs ⊎ P x
behind {X} P xs x a = by (Contains-push_cases xs x a.item a.listed)
  where
    by : Contains xs a.item ⊎ (x ≡ a.item) → AnyOf P xs ⊎ P x
    by (inl h) = inl (record { item = a.item; listed = h; holds = a.holds })
    by (inr e) = inr (subst P (sym e) a.holds)

kept : {X : Type 0} (P : X → Type 0) (xs : List X) (x : X) → AnyOf P xs ⊎ P x → AnyOf P (xs ++ x ∷ [])
kept P xs x (inl a) = record { item = a.item; listed = Contains-append_left xs (x ∷ []) a.item a.listed; holds = a.holds }
kept P xs x (inr h) = record { item = x; listed = Contains-push xs x; holds = h }

-- one item more: `D` holds where `C` did, or of this item
pub any_step : {X : Type 0} (P : X → Type 0) (C D : Type 0) (xs : List X) (i : ℕ) (x : X) → i < length xs → x ≡ get_or xs i x
    → C ↔ AnyOf P (take i xs) → D ↔ (C ⊎ P x) → D ↔ AnyOf P (take (i + 1) xs)
any_step {X} P C D xs i x h e c d =
    let t = same_take xs i x h e in (
      (λ k. subst (AnyOf P) (sym t) (kept P (take i xs) x (first (d.0 k)))),
      λ a. d.1 (last (behind P (take i xs) x (subst (AnyOf P) t a))),
    )
  where
    first : C ⊎ P x → AnyOf P (take i xs) ⊎ P x
    first (inl k) = inl (c.0 k)
    first (inr k) = inr k

    last : AnyOf P (take i xs) ⊎ P x → C ⊎ P x
    last (inl k) = inl (c.1 k)
    last (inr k) = inr k

pub any_whole : {X : Type 0} (P : X → Type 0) (C : Type 0) (xs : List X) (i : ℕ) → length xs ≤ i → C ↔ AnyOf P (take i xs) → C ↔ AnyOf P xs
any_whole P C xs i h c = subst (λ l. C ↔ AnyOf P l) (take_all i xs h) c

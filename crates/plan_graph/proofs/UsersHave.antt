-- A number is in the union of two lists where it is in one of them.
use Rattle.std.proofs.Common.{◌≡◌, ℕ, Bool, true, false, not, ◌&&◌, ◌||◌, List, [], ◌∷◌, ◌++◌, nat_eq, nat_lt, refl, sym, ap, ◌∙◌}
use Rattle.std.specs.List.{list_any}
use Rattle.std.proofs.lemmas.Bool.{eqb-true}
use Rattle.std.proofs.lemmas.List.Folds.{list_any-append}
use Rattle.plan_model.specs.Lists.{has, without, union}
use Rattle.plan_model.proofs.Orders.{any_in_order}
use Rattle.base_laws.proofs.Lists.{any_kept as any_filtered}

others_have : (ns ms : List ℕ) (n : ℕ) → (has ns n || list_any (λ m. not (has ns m) && nat_eq m n) ms) ≡ (has ns n || has ms n)
others_have ns [] n = refl
others_have ns (m ∷ ms) n = by (nat_eq m n) refl (has ns n) refl (others_have ns ms n)
  where
    by : (b : Bool) → nat_eq m n ≡ b → (h : Bool) → has ns n ≡ h → (has ns n || list_any (λ k. not (has ns k) && nat_eq k n) ms) ≡ (has ns n || has ms n)
        → (has ns n || (not (has ns m) && nat_eq m n || list_any (λ k. not (has ns k) && nat_eq k n) ms)) ≡ (has ns n || (nat_eq m n || has ms n))
    by b e true h ih = ap (λ c. c || (not (has ns m) && nat_eq m n || list_any (λ k. not (has ns k) && nat_eq k n) ms)) h ∙ ap (λ c. c || (nat_eq m n || has ms n)) (sym h)
    by true e false h ih =
        let none : has ns m ≡ false = ap (has ns) (eqb-true m n e) ∙ h in
        ap (λ c. c || (not (has ns m) && nat_eq m n || list_any (λ k. not (has ns k) && nat_eq k n) ms)) h
        ∙ (ap (λ c. not c && nat_eq m n || list_any (λ k. not (has ns k) && nat_eq k n) ms) none
        ∙ (ap (λ c. c || list_any (λ k. not (has ns k) && nat_eq k n) ms) e
        ∙ (ap (λ c. c || has ms n) (sym e) ∙ ap (λ c. c || (nat_eq m n || has ms n)) (sym h))))
    by false e false h ih =
        ap (λ c. has ns n || (not (has ns m) && c || list_any (λ k. not (has ns k) && nat_eq k n) ms)) e
        ∙ (ap (λ c. has ns n || (c || list_any (λ k. not (has ns k) && nat_eq k n) ms)) (nothing (has ns m))
        ∙ (ih ∙ ap (λ c. has ns n || (c || has ms n)) (sym e)))
      where
        nothing : (c : Bool) → (not c && false) ≡ false
        nothing true = refl
        nothing false = refl

pub has_union : (ns ms : List ℕ) (n : ℕ) → has (union ns ms) n ≡ (has ns n || has ms n)
has_union ns ms n =
    any_in_order (λ m. nat_eq m n) nat_lt (ns ++ without ms ns)
    ∙ (list_any-append (λ m. nat_eq m n) ns (without ms ns)
    ∙ (ap (λ b. has ns n || b) (any_filtered (λ m. nat_eq m n) (λ m. not (has ns m)) ms) ∙ others_have ns ms n))

-- Regions and what is known of them, while more become known and regions are joined.
use Rattle.std.proofs.Common.{◌≡◌, ℕ, ◌<◌, ◌+◌, ◌-◌, List, [], ◌∷◌, ◌++◌, length, get_or, set, take, refl, sym, ap, subst, ◌∙◌, arith, length-append}
use Rattle.std.specs.List.{remove}
use Rattle.std.proofs.lemmas.List.{get_or-append_right, get_or_default, take_more}
use Rattle.std.proofs.lemmas.Grind.{common_steps}
use Rattle.ir_model.specs.Resolved.{Program}
use Rattle.plan_model.specs.declared.graph.DataRegion.{DataRegion}
use Rattle.plan_model.specs.Regions.{region_at, no_region}
use Rattle.plan_graph.specs.declared.known.Known.{Known}
use Rattle.plan_graph.specs.Known.{IsKnown, IsLearned, AreLearned, known_at, nothing_known}
use Rattle.plan_graph.proofs.Zipped.{zip_append, zip_at, zip_length, zip_remove, zip_set, zip_weaker}

before_all : (ks more : List Known) (n : ℕ) → n < length ks → known_at (ks ++ more) n ≡ known_at ks n
before_all ks more n l = grind (arith, common_steps)

last_of : (ks : List Known) (k : Known) → known_at (ks ++ k ∷ []) (length ks) ≡ k
last_of ks k = let none : length ks - length ks ≡ 0 = omega arith in get_or-append_right ks (k ∷ []) (length ks) (length ks) nothing_known refl (omega arith) ∙ ap (λ n. get_or (k ∷ []) n nothing_known) none

-- more become known
still : (p : Program) (ks more : List Known) (r : DataRegion) (n : ℕ) → IsLearned p ks r n → IsLearned p (ks ++ more) r n
still p ks more r n h =
    record {
      below = let size = length-append ks more in let low = h.below in omega arith;
      known = subst (IsKnown p r) (sym (before_all ks more n h.below)) h.known;
    }

pub still_learned : (p : Program) (ks more : List Known) (rs : List DataRegion) (ns : List ℕ) → AreLearned p ks rs ns → AreLearned p (ks ++ more) rs ns
still_learned p ks more rs ns h = zip_weaker (IsLearned p ks) (IsLearned p (ks ++ more)) (still p ks more) rs ns h

newest : (p : Program) (ks : List Known) (k : Known) (r : DataRegion) → IsKnown p r k → IsLearned p (ks ++ k ∷ []) r (length ks)
newest p ks k r h =
    record { below = let size = length-append ks (k ∷ []) in omega arith; known = subst (IsKnown p r) (sym (last_of ks k)) h }

-- the next region of a list is learned
pub learned_more : (p : Program) (all : List DataRegion) (i : ℕ) (r : DataRegion) (ks after : List Known) (k : Known) (ns more : List ℕ) (n : ℕ) → i < length all → r ≡ get_or all i r
    → AreLearned p ks (take i all) ns → IsKnown p r k → after ≡ ks ++ k ∷ [] → n ≡ length ks → more ≡ ns ++ n ∷ [] → AreLearned p after (take (i + 1) all) more
learned_more p all i r ks after k ns more n l e h known a size m =
    subst (λ xs. AreLearned p xs (take (i + 1) all) more) (sym a)
    (subst (λ ys. AreLearned p (ks ++ k ∷ []) (take (i + 1) all) ys) (sym (m ∙ ap (λ x. ns ++ x ∷ []) size))
    (subst (λ rs. AreLearned p (ks ++ k ∷ []) rs (ns ++ length ks ∷ [])) (sym front)
    (zip_append (IsLearned p (ks ++ k ∷ [])) (take i all) ns (r ∷ []) (length ks ∷ []) (still_learned p ks (k ∷ []) (take i all) ns h) (newest p ks k r known, Prim.tt))))
  where
    front : take (i + 1) all ≡ take i all ++ r ∷ []
    front = take_more all i r l ∙ ap (λ x. take i all ++ x ∷ []) (sym e)

-- two regions are joined
pub learned_joined : (p : Program) (ks after : List Known) (k : Known) (rs : List DataRegion) (r : DataRegion) (ns : List ℕ) (n first second : ℕ)
    → AreLearned p ks rs ns → IsKnown p r k → after ≡ ks ++ k ∷ [] → n ≡ length ks
    → AreLearned p after (remove (set rs first r) second) (remove (set ns first n) second)
learned_joined p ks after k rs r ns n first second h known a size =
    subst (λ xs. AreLearned p xs (remove (set rs first r) second) (remove (set ns first n) second)) (sym a)
    (subst (λ m. AreLearned p (ks ++ k ∷ []) (remove (set rs first r) second) (remove (set ns first m) second)) (sym size)
    (zip_remove (IsLearned p (ks ++ k ∷ [])) (set rs first r) (set ns first (length ks)) second
    (zip_set (IsLearned p (ks ++ k ∷ [])) rs ns first r (length ks) (still_learned p ks (k ∷ []) rs ns h) (newest p ks k r known))))

-- ---- reading

pub learned_each : (p : Program) (ks : List Known) (rs : List DataRegion) (ns : List ℕ) → AreLearned p ks rs ns → length ns ≡ length rs
learned_each p ks rs ns h = sym (zip_length (IsLearned p ks) rs ns h)

pub learned_at : (p : Program) (ks : List Known) (rs : List DataRegion) (ns : List ℕ) (r number : ℕ) → AreLearned p ks rs ns → r < length rs → number ≡ get_or ns r number → IsLearned p ks (region_at rs r) number
learned_at p ks rs ns r number h l e = subst (IsLearned p ks (region_at rs r)) (sym e) (zip_at (IsLearned p ks) rs ns r no_region number h l)

pub known_read : (p : Program) (ks : List Known) (r : DataRegion) (n : ℕ) (k : Known) → IsLearned p ks r n → k ≡ get_or ks n k → IsKnown p r k
known_read p ks r n k h e = subst (IsKnown p r) (sym (e ∙ get_or_default ks n k nothing_known h.below)) h.known

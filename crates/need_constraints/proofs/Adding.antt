-- One thing is put to the rules.
use Rattle.std.proofs.Common.{◌≡◌, ℕ, ◌<◌, List, [], ◌∷◌, ◌++◌, length, get_or, set, map, sym, ap, ◌∙◌, subst, arith, ◌⊎◌, inl, inr}
use Rattle.std.specs.Prelude.{Contains, Vec}
use Rattle.std.proofs.lemmas.List.{length-map, get_or-map, get_or-set_same, map-set}
use Rattle.std.proofs.lemmas.List.Elements.{Contains-append_left, Contains-push, Contains-push_cases}
use Rattle.need_sets.specs.declared.rules.Trigger.{Trigger}
use Rattle.need_sets.specs.declared.rules.Rules.{Rules}
use Rattle.need_sets.specs.Rules.{lists_in}
use Rattle.need_sets.specs.Gathered.{Item, Fact, Copy, Asks, HasItem, IsAdded}
use Rattle.need_sets.proofs.Replaced.{each_replaced}

pub record IsRow (old new : List (List Trigger)) (n : ℕ) (t : Trigger) : Type 0 where
  pub there : n < length old
  pub is : new ≡ set old n (get_or old n [] ++ t ∷ [])

pub trigger_added : (old new : Rules) (n : ℕ) (x : Trigger) → IsRow (lists_in old.triggers) (lists_in new.triggers) n x → new.facts ≡ old.facts → new.copies ≡ old.copies → IsAdded old new (Asks n x)
trigger_added old new n x q f c = record {
  added = subst (λ l. Contains (get_or l n []) x) (sym q.is) (subst (λ l. Contains l x) (sym (get_or-set_same (lists_in old.triggers) n row [] q.there)) (Contains-push (get_or (lists_in old.triggers) n []) x));
  kept = kept;
  cases = cases;
  facts = (let e = ap (λ l. length l.items) f in omega arith);
}
  where
    row : List Trigger
    row = get_or (lists_in old.triggers) n [] ++ x ∷ []

    kept : (y : Item) → HasItem old y → HasItem new y
    kept (Copy y) h = subst (λ l. Contains l.items y) (sym c) h
    kept (Fact y) h = subst (λ l. Contains l.items y) (sym f) h
    kept (Asks m y) h =
        subst (λ l. Contains (get_or l m []) y) (sym q.is)
        (each_replaced (λ i r. Contains (get_or (lists_in old.triggers) i []) y → Contains r y) (lists_in old.triggers) n row (λ i z. z) (λ z. Contains-append_left (get_or (lists_in old.triggers) n []) (x ∷ []) y z) m h)

    cases : (y : Item) → HasItem new y → HasItem old y ⊎ (Asks n x ≡ y)
    cases (Copy y) h = inl (subst (λ l. Contains l.items y) c h)
    cases (Fact y) h = inl (subst (λ l. Contains l.items y) f h)
    cases (Asks m y) h =
        each_replaced (λ i r. Contains r y → Contains (get_or (lists_in old.triggers) i []) y ⊎ (Asks n x ≡ Asks i y)) (lists_in old.triggers) n row (λ i z. inl z)
        (λ z. elim (Contains-push_cases (get_or (lists_in old.triggers) n []) x y z) [ inl i ↦ inl i | inr i ↦ inr (ap (Asks n) i) ]) m (subst (λ l. Contains (get_or l m []) y) q.is h)

-- a list at a place of a vector of vectors is pushed to
pub row_put : {A : Type 0} (v : List (Vec Trigger A)) (n : ℕ) (y z : Vec Trigger A) (t : Trigger) → n < length v → y ≡ get_or v n y → z.items ≡ y.items ++ t ∷ []
    → IsRow (map (λ (x : Vec Trigger A). x.items) v) (map (λ (x : Vec Trigger A). x.items) (set v n z)) n t
row_put {A} v n y z t l e f =
    let m = length-map v (λ (x : Vec Trigger A). x.items) in
    let g : get_or (map (λ (x : Vec Trigger A). x.items) v) n [] ≡ y.items = get_or-map (λ (x : Vec Trigger A). x.items) v n y [] l ∙ ap (λ (x : Vec Trigger A). x.items) (sym e) in
    record {
      there = omega arith;
      is = map-set (λ (x : Vec Trigger A). x.items) v n z ∙ ap (set (map (λ (x : Vec Trigger A). x.items) v) n) (f ∙ ap (λ (r : List Trigger). r ++ t ∷ []) (sym g));
    }

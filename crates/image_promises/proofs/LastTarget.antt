-- The last target of a site with an entry leads to the compartment, where all targets with that entry do.
use Rattle.std.proofs.Common.{◌≡◌, ℕ, ◌+◌, Bool, true, false, List, [], ◌∷◌, map, Option, Some, None, nat_eq, inl, inr, refl, ap, ◌∙◌, eq-eqb, eqb-true, arith}
use Rattle.std.specs.Prelude.{◌⊎◌, Contains}
use Rattle.monitor_model.specs.declared.tables.TargetRecord.{TargetRecord}
use Rattle.monitor_model.specs.Records.{or_this, last_with_entry}
use Rattle.monitor_model.specs.Setting.{leads_to}
use Rattle.need_lists.proofs.Parts.{head, tail, cases, in_none}

-- none, or one that leads to the compartment
abbrev LeadsIfThere : Option TargetRecord → (compartment : ℕ) → Type 0
LeadsIfThere o c = (o ≡ None) ⊎ (leads_to o c ≡ true)

one_more : (o : Option TargetRecord) (b : Bool) (g : TargetRecord) (c : ℕ) → LeadsIfThere o c → (b ≡ true → g.compartment ≡ c) → LeadsIfThere (or_this o b g) c
one_more (Some y) b g c h q = h
one_more None true g c h q = inr (eq-eqb g.compartment c (q refl))
one_more None false g c h q = inl refl

none_of : (o : Option TargetRecord) (b : Bool) (g : TargetRecord) → or_this o b g ≡ None → (o ≡ None) × (b ≡ false)
none_of (Some y) b g h = absurd (let e : Some y ≡ None = h in cc)
none_of None true g h = absurd (let e : Some g ≡ None = h in cc)
none_of None false g h = (refl, refl)

module _ (entry compartment : ℕ → ℕ) where
  -- the target that stands for a function
  abbrev pub target_of : ℕ → TargetRecord
  target_of h = record { entry = entry h + 1; compartment = compartment h }

  all_lead : (hs : List ℕ) (e c : ℕ) → ((x : ℕ) → Contains hs x → entry x + 1 ≡ e → compartment x ≡ c) → LeadsIfThere (last_with_entry e (map target_of hs)) c
  all_lead [] e c h = inl refl
  all_lead (x ∷ xs) e c h =
      one_more (last_with_entry e (map target_of xs)) (nat_eq (entry x + 1) e) (target_of x) c (all_lead xs e c (λ y i q. h y (tail x y xs i) q))
      (λ t. h x (head x xs) (eqb-true (entry x + 1) e t))

  some_found : (hs : List ℕ) (e h : ℕ) → Contains hs h → entry h + 1 ≡ e → last_with_entry e (map target_of hs) ≡ None → ⊥
  some_found [] e h c q none = in_none h c
  some_found (x ∷ xs) e h c q none = by (cases x h xs c) (λ i. some_found xs e h i q parts.0)
    where
      parts : (last_with_entry e (map target_of xs) ≡ None) × (nat_eq (entry x + 1) e ≡ false)
      parts = none_of (last_with_entry e (map target_of xs)) (nat_eq (entry x + 1) e) (target_of x) none

      by : (x ≡ h) ⊎ Contains xs h → (Contains xs h → ⊥) → ⊥
      by (inl i) ih = let t : nat_eq (entry x + 1) e ≡ true = eq-eqb (entry x + 1) e (ap (λ y. entry y + 1) i ∙ q) in let f = parts.1 in cc
      by (inr i) ih = ih i

  -- a function among the targets is the one that its entry leads to, or one of the same compartment
  pub last_leads : (hs : List ℕ) (h : ℕ) → Contains hs h → ((x : ℕ) → Contains hs x → entry x ≡ entry h → compartment x ≡ compartment h)
      → leads_to (last_with_entry (entry h + 1) (map target_of hs)) (compartment h) ≡ true
  last_leads hs h c same = by (all_lead hs (entry h + 1) (compartment h) (λ x i q. same x i (omega (arith, q))))
    where
      by : LeadsIfThere (last_with_entry (entry h + 1) (map target_of hs)) (compartment h) → leads_to (last_with_entry (entry h + 1) (map target_of hs)) (compartment h) ≡ true
      by (inl none) = absurd (some_found hs (entry h + 1) h c refl none)
      by (inr leads) = leads

-- Which of a compartment's slots decides about an address.
use Rattle.std.proofs.Common.{◌≡◌, ℕ, zero, suc, ◌<◌, ◌≤◌, ◌+◌, ◌⊎◌, inl, inr, Bool, true, false, ◌||◌, List, [], ◌∷◌, ◌++◌, length, map, Option, Some, None, lit<, refl, ap, sym, ◌∙◌, subst, arith}
use Rattle.std.proofs.lemmas.Bool.{or_right}
use Rattle.std.specs.List.{list_any}
use Rattle.machine_protection.specs.declared.region.Region.{Region}
use Rattle.machine_protection.specs.declared.region.Access.TheVariants.{Write}
use Rattle.machine_protection.specs.declared.words.Rights.TheVariants.{Device}
use Rattle.machine_protection.specs.Regions.{holds, allows}
use Rattle.machine_protection.specs.Laws.{RegionsGiveTheirRights}
use Rattle.machine_protection.specs.Protection.{deciding, or_this}
use Rattle.machine_protection.specs.RegionWords.{region_of}
use Rattle.base_laws.specs.Lists.{Each}
use Rattle.plan_model.specs.declared.graph.Cover.{Cover}
use Rattle.plan_model.specs.Slots.{SlotUse, cover_slot, free_slot, slots_from}
use Rattle.monitor_model.specs.Setting.{allows_stores}

abbrev pub use_region : (number : ℕ) → SlotUse → Region
use_region m u = region_of m u.base u.size u.srd u.rights

module _ (a : ℕ) where
  -- a slot that holds the address, one that lets unprivileged code store there, and one that stops no store there
  abbrev pub Bears : SlotUse → Type 0
  Bears u = (m : ℕ) → m < 16 → holds (use_region m u) a ≡ true

  abbrev pub Lets : SlotUse → Type 0
  Lets u = (m : ℕ) → m < 16 → allows (use_region m u) true Write ≡ true

  abbrev pub Harmless : SlotUse → Type 0
  Harmless u = (m : ℕ) → m < 16 → (holds (use_region m u) a ≡ false) ⊎ (allows (use_region m u) true Write ≡ true)

  -- one of them holds it
  pub data Borne : List SlotUse → Type 0 where
    here : {u : SlotUse} {us : List SlotUse} → Bears u → Borne (u ∷ us)
    there : {u : SlotUse} {us : List SlotUse} → Borne us → Borne (u ∷ us)

  -- one of them holds it and lets code store, and none behind it stops that
  pub data Written : List SlotUse → Type 0 where
    this : {u : SlotUse} {us : List SlotUse} → Bears u → Lets u → Each Harmless us → Written (u ∷ us)
    behind : {u : SlotUse} {us : List SlotUse} → Written us → Written (u ∷ us)

  pub written_behind : (us vs : List SlotUse) → Written vs → Written (us ++ vs)
  written_behind [] vs b = b
  written_behind (u ∷ us) vs b = behind (written_behind us vs b)

  pub borne_holds : (us : List SlotUse) (n k : ℕ) → Borne us → length us ≤ k → n + k ≤ 16 → list_any (λ (g : Region). holds g a) (slots_from n k us) ≡ true
  borne_holds [] n k b l m = elim b [ ]
  borne_holds (u ∷ us) n zero b l m = absurd (omega arith)
  borne_holds (u ∷ us) n (suc k) (here b) l m = ap (λ c. c || list_any (λ (g : Region). holds g a) (slots_from (suc n) k us)) (b n (omega arith))
  borne_holds (u ∷ us) n (suc k) (there b) l m =
      or_right (holds (use_region n u) a) (list_any (λ (g : Region). holds g a) (slots_from (suc n) k us)) (borne_holds us (suc n) k b (omega arith) (omega arith))

  -- ---- stores

  abbrev Safe : Option Region → Type 0
  Safe None = Unit {0}
  Safe (Some g) = allows g true Write ≡ true

  none_more : (g : Region) (o : Option Region) → Safe o → Safe (or_this false g o)
  none_more g None s = tt
  none_more g (Some x) s = s

  one_more : (g : Region) (b : Bool) (o : Option Region) → (b ≡ true → allows g true Write ≡ true) → Safe o → Safe (or_this b g o)
  one_more g true None h s = h refl
  one_more g false None h s = tt
  one_more g b (Some x) h s = s

  free_holds : (n : ℕ) → holds (free_slot n) a ≡ false
  unfolding holds
  free_holds n = refl

  allowed_by : (g : Region) → (holds g a ≡ false) ⊎ (allows g true Write ≡ true) → holds g a ≡ true → allows g true Write ≡ true
  allowed_by g (inl f) t = absurd (let wrong : false ≡ true = sym f ∙ t in cc)
  allowed_by g (inr e) t = e

  safe : (us : List SlotUse) (n k : ℕ) → Each Harmless us → n + k ≤ 16 → Safe (deciding (slots_from n k us) a)
  unfolding deciding
  safe [] n zero e m = tt
  safe (u ∷ us) n zero e m = tt
  safe [] n (suc k) e m =
      subst (λ b. Safe (or_this b (free_slot n) (deciding (slots_from (suc n) k []) a))) (sym (free_holds n)) (none_more (free_slot n) (deciding (slots_from (suc n) k []) a) (safe [] (suc n) k tt (omega arith)))
  safe (u ∷ us) n (suc k) e m =
      one_more (use_region n u) (holds (use_region n u) a) (deciding (slots_from (suc n) k us) a) (allowed_by (use_region n u) (e.0 n (omega arith))) (safe us (suc n) k e.1 (omega arith))

  first_allows : (g : Region) (b : Bool) (o : Option Region) → b ≡ true → allows g true Write ≡ true → Safe o → allows_stores (or_this b g o) ≡ true
  first_allows g true None e h s = h
  first_allows g false None e h s = absurd (let wrong : false ≡ true = e in cc)
  first_allows g b (Some x) e h s = s

  later_allows : (g : Region) (b : Bool) (o : Option Region) → allows_stores o ≡ true → allows_stores (or_this b g o) ≡ true
  later_allows g b None e = absurd (let wrong : false ≡ true = e in cc)
  later_allows g b (Some x) e = e

  pub written_stores : (us : List SlotUse) (n k : ℕ) → Written us → length us ≤ k → n + k ≤ 16 → allows_stores (deciding (slots_from n k us) a) ≡ true
  unfolding deciding
  written_stores [] n k w l m = elim w [ ]
  written_stores (u ∷ us) n zero w l m = absurd (omega arith)
  written_stores (u ∷ us) n (suc k) (this b h e) l m =
      first_allows (use_region n u) (holds (use_region n u) a) (deciding (slots_from (suc n) k us) a) (b n (omega arith)) (h n (omega arith)) (safe us (suc n) k e (omega arith))
  written_stores (u ∷ us) n (suc k) (behind w) l m =
      later_allows (use_region n u) (holds (use_region n u) a) (deciding (slots_from (suc n) k us) a) (written_stores us (suc n) k w (omega arith) (omega arith))

-- ---- the slots of covers let code store

module _ (given : RegionsGiveTheirRights) (a : ℕ) where
  pub cover_lets : (d : Cover) → Lets a (cover_slot d)
  cover_lets d m l = given m d.base d.size 0 Device (lit< tt) true Write

  pub covers_harmless : (ds : List Cover) → Each (Harmless a) (map cover_slot ds)
  covers_harmless [] = tt
  covers_harmless (d ∷ ds) = (λ m l. inr (cover_lets d m l), covers_harmless ds)

-- The place of a name in a list that grows.
use Rattle.std.proofs.Common.{◌≡◌, ℕ, zero, suc, ◌<◌, Bool, true, false, List, [], ◌∷◌, ◌++◌, Option, Some, None, if◌then◌else◌, refl, sym, ap, ◌∙◌, length, arith, bytes_eq, cond, MatchOption, is_some}
use Rattle.std.proofs.lemmas.Slice.Eq.{bytes_eq-Decides}
use Rattle.base_names.specs.Numbers.{has, number_of}
use Rattle.base_names.proofs.Below.{number_below}
use Rattle.ir_names.specs.Places.{place_in}

later : Option ℕ → Option ℕ
later None = None
later (Some k) = Some (suc k)

place_next : (ns : List (List ℕ)) (m q : List ℕ) → place_in (m ∷ ns) q ≡ (if bytes_eq m q then Some zero else later (place_in ns q))
unfolding later
place_next ns m q = pick (bytes_eq m q) (has ns q)
  where
    pick : (b c : Bool) → (if (if b then true else c) then Some (if b then zero else suc (number_of ns q)) else None) ≡ (if b then Some zero else later (if c then Some (number_of ns q) else None))
    pick true c = refl
    pick false true = refl
    pick false false = refl

abbrev or_last : Option ℕ → Bool → ℕ → Option ℕ
or_last (Some k) b l = Some k
or_last None b l = if b then Some l else None

place_more : (ns : List (List ℕ)) (n q : List ℕ) → place_in (ns ++ n ∷ []) q ≡ or_last (place_in ns q) (bytes_eq n q) (length ns)
unfolding later
place_more [] n q = pick (bytes_eq n q)
  where
    pick : (b : Bool) → (if (if b then true else false) then Some (if b then zero else suc zero) else None) ≡ (if b then Some zero else None)
    pick true = refl
    pick false = refl
place_more (m ∷ ns) n q = place_next (ns ++ n ∷ []) m q ∙ (ap (λ o. if bytes_eq m q then Some zero else later o) (place_more ns n q) ∙ (pick (bytes_eq m q) (place_in ns q) (bytes_eq n q) ∙ ap (λ o. or_last o (bytes_eq n q) (suc (length ns))) (sym (place_next ns m q))))
  where
    pick : (b : Bool) (o : Option ℕ) (c : Bool) → (if b then Some zero else later (or_last o c (length ns))) ≡ or_last (if b then Some zero else later o) c (suc (length ns))
    pick true o c = refl
    pick false (Some k) c = refl
    pick false None true = refl
    pick false None false = refl

-- a name that is new
pub put_new : (ns : List (List ℕ)) (n q : List ℕ) (old new : Option ℕ) → is_some (place_in ns n) ≡ false → old ≡ place_in ns q → new ≡ cond (bytes_eq n q) (Some (length ns)) old → new ≡ place_in (ns ++ n ∷ []) q
put_new ns n q old new h e f = f ∙ (ap (cond (bytes_eq n q) (Some (length ns))) e ∙ (pick (bytes_eq n q) refl (place_in ns q) refl ∙ sym (place_more ns n q)))
  where
    pick : (b : Bool) → bytes_eq n q ≡ b → (o : Option ℕ) → place_in ns q ≡ o → cond b (Some (length ns)) o ≡ or_last o b (length ns)
    pick true i None j = refl
    pick true i (Some k) j = let g = (bytes_eq-Decides n q).0 i in let u = ap (λ x. is_some (place_in ns x)) g in let v : is_some (place_in ns q) ≡ true = ap is_some j in cc
    pick false i None j = refl
    pick false i (Some k) j = refl

-- a name that is there
pub put_again : (ns : List (List ℕ)) (n q : List ℕ) (old : Option ℕ) → is_some (place_in ns n) ≡ true → old ≡ place_in ns q → old ≡ place_in (ns ++ n ∷ []) q
put_again ns n q old h e = e ∙ (pick (bytes_eq n q) refl (place_in ns q) refl ∙ sym (place_more ns n q))
  where
    pick : (b : Bool) → bytes_eq n q ≡ b → (o : Option ℕ) → place_in ns q ≡ o → o ≡ or_last o b (length ns)
    pick b i (Some k) j = refl
    pick false i None j = refl
    pick true i None j = let g = (bytes_eq-Decides n q).0 i in let u = ap (λ x. is_some (place_in ns x)) g in let v : is_some (place_in ns q) ≡ false = ap is_some j in cc

pub found : (ns : List (List ℕ)) (n : List ℕ) (r : Option ℕ) → r ≡ place_in ns n → MatchOption r (has ns n ≡ false) (λ k. (has ns n ≡ true) × ((k ≡ number_of ns n) × (k < length ns)))
found ns n r e = pick (has ns n) refl r e
  where
    pick : (b : Bool) → has ns n ≡ b → (r : Option ℕ) → r ≡ (if b then Some (number_of ns n) else None) → MatchOption r (has ns n ≡ false) (λ k. (has ns n ≡ true) × ((k ≡ number_of ns n) × (k < length ns)))
    pick true h None e = cc
    pick true h (Some k) e = let q : k ≡ number_of ns n = cc in let l = number_below ns n h in (h, (q, omega arith))
    pick false h None e = h
    pick false h (Some k) e = cc

absent_next : (ns : List (List ℕ)) (n : List ℕ) (b : Bool) → (has ns n ≡ false → number_of ns n ≡ length ns)
    → (if b then true else has ns n) ≡ false → (if b then zero else suc (number_of ns n)) ≡ suc (length ns)
absent_next ns n true f e = cc
absent_next ns n false f e = ap suc (f e)

-- a name that is not there has the number behind the last
pub absent : (ns : List (List ℕ)) (n : List ℕ) → has ns n ≡ false → number_of ns n ≡ length ns
absent [] n h = refl
absent (m ∷ ns) n h = absent_next ns n (bytes_eq m n) (λ e. absent ns n e) h

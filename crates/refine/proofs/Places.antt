-- One fixed place for each frame of a run: where it was entered.
use Rattle.std.proofs.Common.{◌≡◌, ◌≢◌, ℕ, zero, suc, ◌+◌, ◌-◌, ◌<◌, ◌≤◌, List, [], ◌∷◌, ◌++◌, length, get_or, refl, sym, ap, ◌∙◌, subst, arith, length-append}
use Rattle.ir_laws.specs.Moves.{Where, Moves, Moved, Pushed, Popped}
use Rattle.code_model.specs.FrameShape.{frame_size}
use Rattle.refine_model.specs.StackLimit as limit
use Rattle.refine.specs.Builds.{Build, func}
use Rattle.refine.specs.Relation.{site_of}
use Rattle.refine.proofs.Limits.{stack_size, position, Placed}
use Rattle.refine.proofs.Joined.{get_front}

get_next : (xs : List ℕ) (y : ℕ) → get_or (xs ++ y ∷ []) (length xs) 0 ≡ y
get_next [] y = refl
get_next (x ∷ xs) y = get_next xs y

nothing_behind : (xs : List ℕ) → xs ++ [] ≡ xs
nothing_behind [] = refl
nothing_behind (x ∷ xs) = ap (λ (l : List ℕ). x ∷ l) (nothing_behind xs)

-- numbers below a bound
abbrev pub Numbered : ℕ → List Where → Type 0
Numbered n [] = Unit {0}
Numbered n (w ∷ ws) = (w.number < n) × Numbered n ws

more_numbered : (n m : ℕ) (ws : List Where) → n ≤ m → Numbered n ws → Numbered m ws
more_numbered n m [] l h = tt
more_numbered n m (w ∷ ws) l h = (omega (arith, h.0), more_numbered n m ws l h.1)

module _ (k : Build) where
  -- places that agree below a bound
  placed_alike : (p q : ℕ → ℕ) (n : ℕ) (ws : List Where) → ((i : ℕ) → i < n → q i ≡ p i) → Numbered n ws → Placed k p ws → Placed k q ws
  placed_alike p q n [] e h a = tt
  placed_alike p q n (w ∷ ws) e h a = (e w.number h.0 ∙ a.0, placed_alike p q n ws e h.1 a.1)

  -- a run's frames: at each moment where they stand, and how many were made
  pub record Frames (at : ℕ → List Where) (made : ℕ → ℕ) : Type 0 where
    pub first : (w : Where) × (at 0 ≡ w ∷ []) × (w.number ≡ 0) × (made 0 ≡ 1)
    -- a step of a run that goes on
    pub moves : (n : ℕ) → at (suc n) ≢ [] → Moves (at n) (made n) (at (suc n)) (made (suc n))

  module _ (at : ℕ → List Where) (made : ℕ → ℕ) (fr : Frames at made) where
    -- the places of the frames that were made in so many steps
    abbrev pub added : List Where → (before after : ℕ) → List ℕ
    added ws zero zero = []
    added ws zero (suc m) = (k.setting.stack + position k ws) ∷ []
    added ws (suc n) zero = []
    added ws (suc n) (suc m) = added ws n m

    abbrev pub trace : ℕ → List ℕ
    trace zero = (k.setting.stack + position k (at 0)) ∷ []
    trace (suc n) = trace n ++ added (at (suc n)) (made n) (made (suc n))

    abbrev pub place_in : List ℕ → ℕ → ℕ
    place_in l i = get_or l i 0

    pub record Known (n : ℕ) : Type 0 where
      pub count : length (trace n) ≡ made n
      pub numbers : Numbered (made n) (at n)
      pub placed : Placed k (place_in (trace n)) (at n)

    added_none : (ws : List Where) (n : ℕ) → added ws n n ≡ []
    added_none ws zero = refl
    added_none ws (suc n) = added_none ws n

    added_one : (ws : List Where) (n m : ℕ) → m ≡ suc n → added ws n m ≡ (k.setting.stack + position k ws) ∷ []
    added_one ws zero zero e = absurd (omega arith)
    added_one ws zero (suc m) e = refl
    added_one ws (suc n) zero e = absurd (omega arith)
    added_one ws (suc n) (suc m) e = added_one ws n m (omega arith)

    pub prefix : (n : ℕ) (d : ℕ) (i : ℕ) → i < length (trace n) → place_in (trace (d + n)) i ≡ place_in (trace n) i
    prefix n zero i h = let z : 0 + n ≡ n = omega arith in ap (λ (m : ℕ). place_in (trace m) i) z
    prefix n (suc d) i h =
        let z : suc d + n ≡ suc (d + n) = omega arith in
        let r = prefix n d i h in
        ap (λ (m : ℕ). place_in (trace m) i) z ∙ get_front (trace (d + n)) (added (at (suc (d + n))) (made (d + n)) (made (suc (d + n)))) i (longer n d i h) ∙ r
      where
        grows : (xs ys : List ℕ) (i : ℕ) → i < length xs → i < length (xs ++ ys)
        grows xs ys i h = let a = length-append xs ys in omega arith

        longer : (n d i : ℕ) → i < length (trace n) → i < length (trace (d + n))
        longer n zero i h = let z : n ≡ 0 + n = omega arith in subst (λ (m : ℕ). i < length (trace m)) z h
        longer n (suc d) i h = let z : suc (d + n) ≡ suc d + n = omega arith in subst (λ (m : ℕ). i < length (trace m)) z (grows (trace (d + n)) (added (at (suc (d + n))) (made (d + n)) (made (suc (d + n)))) i (longer n d i h))

    -- a step
    stepped : (l : List ℕ) (ws vs : List Where) (n m : ℕ) → length l ≡ n → Numbered n ws → Placed k (place_in l) ws → Moves ws n vs m →
        (length (l ++ added vs n m) ≡ m) × Numbered m vs × Placed k (place_in (l ++ added vs n m)) vs
    stepped l _ _ n _ c h p (Moved {w} {v} {ws} ef en) =
        let e : l ++ added (v ∷ ws) n n ≡ l = ap (λ (x : List ℕ). l ++ x) (added_none (v ∷ ws) n) ∙ nothing_behind l in
        let po = ap (λ (f : ℕ). k.setting.stack + (limit.limit_by k.program k.needs k.groups (stack_size k) (site_of k ws) (position k ws) - frame_size (func k f))) (sym ef) in
        subst (λ (x : List ℕ). (length x ≡ n) × Numbered n (v ∷ ws) × Placed k (place_in x) (v ∷ ws)) (sym e)
        (c, (subst (λ (y : ℕ). y < n) (sym en) h.0, h.1), (ap (λ (y : ℕ). place_in l y) en ∙ p.0 ∙ po, p.1))
    stepped l _ _ n _ c h p (Pushed {w} {v} {ws} en) =
        let e : l ++ added (v ∷ w ∷ ws) n (suc n) ≡ l ++ (k.setting.stack + position k (v ∷ w ∷ ws)) ∷ [] = ap (λ (x : List ℕ). l ++ x) (added_one (v ∷ w ∷ ws) n (suc n) (omega arith)) in
        let l1 : List ℕ = l ++ (k.setting.stack + position k (v ∷ w ∷ ws)) ∷ [] in
        let ln = length-append l ((k.setting.stack + position k (v ∷ w ∷ ws)) ∷ []) in
        let vn : v.number ≡ length l = omega arith in
        let here_ : place_in l1 v.number ≡ k.setting.stack + position k (v ∷ w ∷ ws) = ap (λ (y : ℕ). place_in l1 y) vn ∙ get_next l (k.setting.stack + position k (v ∷ w ∷ ws)) in
        let old = placed_alike (place_in l) (place_in l1) n (w ∷ ws) (λ i u. get_front l ((k.setting.stack + position k (v ∷ w ∷ ws)) ∷ []) i (omega arith)) h p in
        subst (λ (x : List ℕ). (length x ≡ suc n) × Numbered (suc n) (v ∷ w ∷ ws) × Placed k (place_in x) (v ∷ w ∷ ws)) (sym e)
        (omega arith, (omega arith, more_numbered n (suc n) (w ∷ ws) (omega arith) h), (here_, old))
    stepped l _ _ n _ c h p (Popped {u} {w} {v} {ws} ef en) =
        let e : l ++ added (v ∷ ws) n n ≡ l = ap (λ (x : List ℕ). l ++ x) (added_none (v ∷ ws) n) ∙ nothing_behind l in
        let po = ap (λ (f : ℕ). k.setting.stack + (limit.limit_by k.program k.needs k.groups (stack_size k) (site_of k ws) (position k ws) - frame_size (func k f))) (sym ef) in
        subst (λ (x : List ℕ). (length x ≡ n) × Numbered n (v ∷ ws) × Placed k (place_in x) (v ∷ ws)) (sym e)
        (c, (subst (λ (y : ℕ). y < n) (sym en) h.1.0, h.1.1), (ap (λ (y : ℕ). place_in l y) en ∙ p.1.0 ∙ po, p.1.1))

    -- while the run goes on
    pub known : (n : ℕ) → ((j : ℕ) → j ≤ n → at j ≢ []) → Known n
    known zero run_on =
        let f = fr.first in
        record {
          count = sym f.3;
          numbers = subst (λ (ws : List Where). Numbered (made 0) ws) (sym f.1) ((let a = f.2 in let b = f.3 in omega arith), tt);
          placed = subst (λ (ws : List Where). Placed k (place_in ((k.setting.stack + position k ws) ∷ [])) ws) (sym f.1)
              (ap (λ (y : ℕ). place_in ((k.setting.stack + position k (f.0 ∷ [])) ∷ []) y) f.2, tt);
        }
    known (suc n) run_on =
        let r = known n (λ j h. run_on j (omega arith)) in
        let s = stepped (trace n) (at n) (at (suc n)) (made n) (made (suc n)) r.count r.numbers r.placed (fr.moves n (run_on (suc n) (omega arith))) in
        record { count = s.0; numbers = s.1; placed = s.2 }

    -- at the end of n steps each frame that lived has its place, at every moment before
    pub places_at : (n d : ℕ) → ((j : ℕ) → j ≤ n → at j ≢ []) → Placed k (place_in (trace (d + n))) (at n)
    places_at n d run_on =
        let r = known n run_on in
        placed_alike (place_in (trace n)) (place_in (trace (d + n))) (made n) (at n) (λ i u. prefix n d i (let c = r.count in omega arith)) r.numbers r.placed

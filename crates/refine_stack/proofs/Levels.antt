-- How many calls functions need to come to a function, level by level.
use Rattle.std.proofs.Common.{◌≡◌, ℕ, zero, suc, ◌+◌, ◌<◌, ◌≤◌, ◌⊎◌, inl, inr, Bool, true, false, ◌||◌, List, [], ◌∷◌, length, get_or, nat_eq, refl, sym, ap, subst, ◌∙◌, arith}
use Rattle.std.specs.Prelude.{Contains}
use Rattle.std.proofs.lemmas.Bool.{eqb-true, eq-eqb, cases_lt}
use Rattle.std.proofs.lemmas.List.{get_or_default}
use Rattle.refine_stack.specs.Cycles.{IsWalk}
use Rattle.refine_stack.specs.declared.calls.Call.{Call}
use Rattle.refine_stack.specs.Listed.{call, Calls}
use Rattle.refine_stack.specs.Far.{near, IsMarked, IsLevel, AreFar}

module _ (cs : List Call) (to : ℕ) where
  abbrev pub Walk : ℕ → List ℕ → Type 0
  Walk f xs = IsWalk (Calls cs) f xs to

  -- known exactly for walks of at most so many calls
  pub record AreFarUpTo (k : ℕ) (far : List ℕ) : Type 0 where
    pub sound : (f : ℕ) → 0 < get_or far f 0 → (xs : List ℕ) × Walk f xs × (length xs + 1 ≡ get_or far f 0)
    pub covers : (f : ℕ) (xs : List ℕ) → Walk f xs → length xs < k → (0 < get_or far f 0) × (get_or far f 0 ≤ length xs + 1)
    pub small : (f : ℕ) → get_or far f 0 ≤ k

  module _ (k : ℕ) (old new : List ℕ) (changed : Bool) (a : AreFarUpTo k old) (l : IsLevel cs to k old new changed) where
    near_walk : (j : ℕ) (x : Call) → Contains cs x → near old to j x ≡ true → (xs : List ℕ) × Walk x.from xs × (length xs ≡ j)
    near_walk zero x listed e = ([], (x.crosses, subst (λ (h : ℕ). Contains cs (call x.from h x.crosses)) (eqb-true x.to to e) listed), refl)
    near_walk (suc m) x listed e =
        let q : get_or old x.to 0 ≡ suc m = eqb-true (get_or old x.to 0) (suc m) e in
        let s = a.sound x.to (omega arith) in
        let n = s.2 in
        (x.to ∷ s.0, ((x.crosses, listed), s.1), omega arith)

    sound_by : (f : ℕ) → (0 < get_or old f 0) ⊎ (get_or old f 0 ≤ 0) → 0 < get_or new f 0 → (xs : List ℕ) × Walk f xs × (length xs + 1 ≡ get_or new f 0)
    sound_by f (inl p) h = let s = a.sound f p in (s.0, s.1, s.2 ∙ sym (l.keeps f p))
    sound_by f (inr z) h = by (l.from f (omega arith))
      where
        by : (get_or new f 0 ≡ 0) ⊎ ((x : Call) × Contains cs x × (x.from ≡ f) × (near old to k x ≡ true) × (get_or new f 0 ≡ k + 1)) → (xs : List ℕ) × Walk f xs × (length xs + 1 ≡ get_or new f 0)
        by (inl e) = absurd (omega arith)
        by (inr e) =
            let w = near_walk k e.0 e.1 e.3 in
            let n = w.2 in
            let m = e.4 in
            (w.0, subst (λ (i : ℕ). Walk i w.0) e.2 w.1, omega arith)

    small_by : (f : ℕ) → (0 < get_or old f 0) ⊎ (get_or old f 0 ≤ 0) → get_or new f 0 ≤ k + 1
    small_by f (inl p) = let e = l.keeps f p in let s = a.small f in omega arith
    small_by f (inr z) = by (l.from f (omega arith))
      where
        by : (get_or new f 0 ≡ 0) ⊎ ((x : Call) × Contains cs x × (x.from ≡ f) × (near old to k x ≡ true) × (get_or new f 0 ≡ k + 1)) → get_or new f 0 ≤ k + 1
        by (inl e) = omega arith
        by (inr e) = let m = e.4 in omega arith

    small_new : (f : ℕ) → get_or new f 0 ≤ k + 1
    small_new f = small_by f (cases_lt 0 (get_or old f 0))

    -- of a walk of so many calls and one more
    near_by : (f y : ℕ) (c : Bool) (ys : List ℕ) → Contains cs (call f y c) → Walk y ys → k ≡ suc (length ys) → (0 < get_or old y 0) × (get_or old y 0 ≤ length ys + 1)
        → (get_or old y 0 < k) ⊎ (k ≤ get_or old y 0) → 0 < get_or new f 0
    near_by f y c ys listed w e known (inl b) =
        let s = a.sound y known.0 in
        let n = s.2 in
        let o = a.covers f (y ∷ s.0) ((c, listed), s.1) (omega arith) in
        let q = l.keeps f o.0 in
        let p = o.0 in
        omega arith
    near_by f y c ys listed w e known (inr b) =
        let u = known.1 in
        let q : get_or old y 0 ≡ suc (length ys) = omega arith in
        l.done (call f y c) listed (subst (λ (j : ℕ). near old to j (call f y c) ≡ true) (sym e) (eq-eqb (get_or old y 0) (suc (length ys)) q))

    reached : (f : ℕ) (xs : List ℕ) → Walk f xs → length xs ≡ k → 0 < get_or new f 0
    reached f [] w e = l.done (call f to w.0) w.1 (subst (λ (j : ℕ). near old to j (call f to w.0) ≡ true) e (eq-eqb to to refl))
    reached f (y ∷ ys) w e =
        near_by f y w.0.0 ys w.0.1 w.1 (sym e) (a.covers y ys w.1 (omega arith)) (cases_lt (get_or old y 0) k)

    covers_by : (f : ℕ) (xs : List ℕ) → Walk f xs → length xs < k + 1 → (length xs < k) ⊎ (k ≤ length xs) → (0 < get_or new f 0) × (get_or new f 0 ≤ length xs + 1)
    covers_by f xs w h (inl b) =
        let o = a.covers f xs w b in
        let q = l.keeps f o.0 in
        let p = o.0 in
        let r = o.1 in
        (omega arith, omega arith)
    covers_by f xs w h (inr b) =
        let s = small_new f in
        (reached f xs w (omega arith), omega arith)

    pub far_step : AreFarUpTo (k + 1) new
    far_step = record {
      sound = λ f h. sound_by f (cases_lt 0 (get_or old f 0)) h;
      covers = λ f xs w h. covers_by f xs w h (cases_lt (length xs) k);
      small = small_new;
    }

  -- no walk is longer where a level adds nothing
  module _ (k : ℕ) (far : List ℕ) (a : AreFarUpTo k far) (b : AreFarUpTo (k + 1) far) where
    all_known : (f : ℕ) (xs : List ℕ) → Walk f xs → (0 < get_or far f 0) × (get_or far f 0 ≤ length xs + 1)
    all_known f [] w = b.covers f [] w (omega arith)
    all_known f (y ∷ ys) w =
        let i = all_known y ys w.1 in
        let s = a.sound y i.0 in
        let m = a.small y in
        let n = s.2 in
        let c = b.covers f (y ∷ s.0) (w.0, s.1) (omega arith) in
        let u = i.1 in
        let v = c.1 in
        (c.0, omega arith)

    pub far_all : AreFar cs to far
    far_all = record { sound = a.sound; covers = all_known }

  pub far_still : (k : ℕ) (old new : List ℕ) (changed : Bool) → AreFarUpTo k old → IsLevel cs to k old new changed → changed ≡ false → AreFar cs to new
  far_still k old new changed a l e =
      let s = l.same e in
      far_all k new (subst (AreFarUpTo k) (sym s) a) (far_step k old new changed a l)

-- ---- all calls

module _ (cs : List Call) (to more : ℕ) where
  pub record AreMarked (i : ℕ) (old new : List ℕ) (changed : Bool) : Type 0 where
    pub count : length new ≡ length old
    pub keeps : (f : ℕ) → 0 < get_or old f 0 → get_or new f 0 ≡ get_or old f 0
    pub done : (x : Call) (j : ℕ) → j < i → get_or cs j x ≡ x → near old to more x ≡ true → 0 < get_or new x.from 0
    pub from : (f : ℕ) → get_or old f 0 ≡ 0 → (get_or new f 0 ≡ 0) ⊎ ((x : Call) × Contains cs x × (x.from ≡ f) × (near old to more x ≡ true) × (get_or new f 0 ≡ more + 1))
    pub same : changed ≡ false → new ≡ old

  module _ (i : ℕ) (old mid new : List ℕ) (was now : Bool) (x : Call) (below : i < length cs) (here : get_or cs i x ≡ x) (n : length new ≡ length mid)
      (a : AreMarked i old mid was) (m : IsMarked to more x mid new now) where
    -- what was near is near, and no more
    value_same : (k h : ℕ) → (0 < get_or old h 0) ⊎ (get_or old h 0 ≤ 0) → k ≡ more → 0 < k → nat_eq (get_or mid h 0) k ≡ nat_eq (get_or old h 0) k
    value_same k h (inl p) e q = ap (λ (v : ℕ). nat_eq v k) (a.keeps h p)
    value_same k h (inr z) e q = by (a.from h (omega arith))
      where
        differ : (u v : ℕ) → (u ≡ k → ⊥) → (v ≡ k → ⊥) → nat_eq u k ≡ nat_eq v k
        differ u v f g = test (nat_eq u k) (nat_eq v k) refl refl
          where
            test : (b c : Bool) → nat_eq u k ≡ b → nat_eq v k ≡ c → b ≡ c
            test true c h1 h2 = absurd (f (eqb-true u k h1))
            test false true h1 h2 = absurd (g (eqb-true v k h2))
            test false false h1 h2 = refl

        by : (get_or mid h 0 ≡ 0) ⊎ ((y : Call) × Contains cs y × (y.from ≡ h) × (near old to more y ≡ true) × (get_or mid h 0 ≡ more + 1)) → nat_eq (get_or mid h 0) k ≡ nat_eq (get_or old h 0) k
        by (inl w) = differ (get_or mid h 0) (get_or old h 0) (λ r. absurd (omega arith)) (λ r. absurd (omega arith))
        by (inr w) = let v = w.4 in differ (get_or mid h 0) (get_or old h 0) (λ r. absurd (omega arith)) (λ r. absurd (omega arith))

    near_same : (k : ℕ) → k ≡ more → near mid to k x ≡ near old to k x
    near_same zero e = refl
    near_same (suc j) e = value_same (suc j) x.to (cases_lt 0 (get_or old x.to 0)) e (omega arith)

    same_near : near mid to more x ≡ near old to more x
    same_near = near_same more refl

    keeps : (f : ℕ) → 0 < get_or old f 0 → get_or new f 0 ≡ get_or old f 0
    keeps f p =
        let e = a.keeps f p in
        m.keeps f (subst (λ (v : ℕ). 0 < v) (sym e) p) ∙ e

    -- a number stays one
    stays : (f : ℕ) → 0 < get_or mid f 0 → 0 < get_or new f 0
    stays f p = subst (λ (v : ℕ). 0 < v) (sym (m.keeps f p)) p

    done_by : (y : Call) (j : ℕ) → get_or cs j y ≡ y → near old to more y ≡ true → (j < i) ⊎ (i ≤ j) → j < i + 1 → 0 < get_or new y.from 0
    done_by y j at h (inl l) b = stays y.from (a.done y j l at h)
    done_by y j at h (inr l) b =
        let ji : j ≡ i = omega arith in
        let ai : get_or cs i y ≡ y = subst (λ (k : ℕ). get_or cs k y ≡ y) ji at in
        let xy : x ≡ y = sym here ∙ (get_or_default cs i x y below ∙ ai) in
        subst (λ (z : Call). 0 < get_or new z.from 0) xy (m.done (same_near ∙ subst (λ (z : Call). near old to more z ≡ true) (sym xy) h))

    from_by : (f : ℕ) → get_or old f 0 ≡ 0 → (get_or mid f 0 ≡ 0) ⊎ ((y : Call) × Contains cs y × (y.from ≡ f) × (near old to more y ≡ true) × (get_or mid f 0 ≡ more + 1))
        → (get_or new f 0 ≡ get_or mid f 0) ⊎ ((f ≡ x.from) × (get_or mid f 0 ≡ 0) × (near mid to more x ≡ true) × (get_or new f 0 ≡ more + 1))
        → (get_or new f 0 ≡ 0) ⊎ ((y : Call) × Contains cs y × (y.from ≡ f) × (near old to more y ≡ true) × (get_or new f 0 ≡ more + 1))
    from_by f z (inl e) (inl q) = inl (q ∙ e)
    from_by f z (inr e) (inl q) = inr (e.0, e.1, e.2, e.3, q ∙ e.4)
    from_by f z e (inr q) = inr (x, (i, below, here), sym q.0, sym same_near ∙ q.2, q.3)

    same_by : (b c : Bool) → was ≡ b → now ≡ c → (b || c) ≡ false → new ≡ old
    same_by true c w h e = cc
    same_by false true w h e = cc
    same_by false false w h e = m.same h ∙ a.same w

    pub marked_more : AreMarked (i + 1) old new (was || now)
    marked_more = record {
      count = n ∙ a.count;
      keeps = keeps;
      done = λ y j l at h. done_by y j at h (cases_lt j i) l;
      from = λ f z. from_by f z (a.from f z) (m.from f);
      same = λ e. same_by was now refl refl e;
    }

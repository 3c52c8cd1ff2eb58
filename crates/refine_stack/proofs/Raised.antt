-- Numbers that are raised by calls until no call raises one.
use Rattle.std.proofs.Common.{◌≡◌, ℕ, ◌+◌, ◌-◌, ◌/◌, ◌<◌, ◌≤◌, ◌⊎◌, inl, inr, Bool, true, false, ◌||◌, List, ◌∷◌, length, get_or, refl, sym, ap, subst, ◌∙◌, arith}
use Rattle.std.specs.Prelude.{Contains}
use Rattle.std.proofs.Math.Nat.{mul-le-mul_right}
use Rattle.std.proofs.lemmas.Nat.{le-div}
use Rattle.std.proofs.Math.Nat.{div-mul-le_self}
use Rattle.std.proofs.lemmas.Bool.{cases_lt}
use Rattle.std.proofs.lemmas.List.{get_or_default}
use Rattle.ir_model.specs.Layout.{rounded_up}
use Rattle.refine_stack.specs.Paths.{taken_above}
use Rattle.refine_stack.specs.declared.calls.Call.{Call}
use Rattle.refine_stack.specs.Listed.{IsThere, AreThere}
use Rattle.refine_stack.specs.Taken.{value, IsRelaxed, IsRoute, IsSound}

-- ---- what is taken grows

pub rounded_grows : (a b e : ℕ) → 0 < e → a ≤ b → rounded_up a e ≤ rounded_up b e
rounded_grows a b e pos l =
    let s = div-mul-le_self (a + (e - 1)) e in
    let q : (a + (e - 1)) / e ≤ (b + (e - 1)) / e = le-div ((a + (e - 1)) / e) (b + (e - 1)) e pos (omega arith) in
    mul-le-mul_right e q

pub value_grows : (frames : List ℕ) (stack : ℕ) (x : Call) (t u : ℕ) → 8 ≤ stack → t ≤ u → value frames stack x t ≤ value frames stack x u
value_grows frames stack x t u eight l = by x.crosses
  where
    by : (c : Bool) → taken_above stack c t + get_or frames x.to 0 ≤ taken_above stack c u + get_or frames x.to 0
    by false = omega arith
    by true = let r = rounded_grows (t + 32) (u + 32) (stack / 8) (omega arith) (omega arith) in omega arith

-- ---- all calls

module _ (frames : List ℕ) (stack : ℕ) (cs : List Call) (main : ℕ) where
  -- a call that is told from a number gives its callee what a path takes
  pub relaxed_sound : (x : Call) (old new : List ℕ) (changed : Bool) → Contains cs x → IsRelaxed frames stack x old new changed → IsSound frames stack cs main old → IsSound frames stack cs main new
  relaxed_sound x old new changed listed r sound f pos = by (r.from f)
    where
      by : (get_or new f 0 ≡ get_or old f 0) ⊎ ((f ≡ x.to) × (0 < get_or old x.from 0) × (get_or new f 0 ≡ value frames stack x (get_or old x.from 0)))
          → (fs : List ℕ) × IsRoute frames stack cs main (f ∷ fs) (get_or new f 0)
      by (inl e) =
          let s = sound f (subst (λ (i : ℕ). 0 < i) e pos) in
          (s.0, subst (λ (i : ℕ). IsRoute frames stack cs main (f ∷ s.0) i) (sym e) s.1)
      by (inr e) =
          let s = sound x.from e.1 in (
            x.from ∷ s.0,
            subst (λ (h : ℕ). IsRoute frames stack cs main (h ∷ x.from ∷ s.0) (get_or new f 0)) (sym e.0)
                (x.crosses, get_or old x.from 0, listed, s.1, e.2),
          )

  -- what the calls leave that were told up to here
  pub record IsTold (i : ℕ) (old new : List ℕ) (changed : Bool) : Type 0 where
    pub count : length new ≡ length old
    pub grows : (f : ℕ) → get_or old f 0 ≤ get_or new f 0
    pub sound : IsSound frames stack cs main old → IsSound frames stack cs main new
    pub same : changed ≡ false → new ≡ old
    pub closed : changed ≡ false → (x : Call) (k : ℕ) → k < i → get_or cs k x ≡ x → 0 < get_or old x.from 0 → value frames stack x (get_or old x.from 0) ≤ get_or old x.to 0

  -- one call more
  told_changed : (i : ℕ) (old mid new : List ℕ) (was now : Bool) (x : Call) → Contains cs x → length new ≡ length mid → IsTold i old mid was → IsRelaxed frames stack x mid new now → IsTold (i + 1) old new true
  told_changed i old mid new was now x listed n t r = record {
    count = n ∙ t.count;
    grows = λ f. let a = t.grows f in let b = r.grows f in omega arith;
    sound = λ s. relaxed_sound x mid new now listed r (t.sound s);
    same = λ e. cc;
    closed = λ e. cc;
  }

  told_same : (i : ℕ) (old mid new : List ℕ) (was now : Bool) (x : Call) → i < length cs → get_or cs i x ≡ x → was ≡ false → now ≡ false → IsTold i old mid was → IsRelaxed frames stack x mid new now → IsTold (i + 1) old new false
  told_same i old mid new was now x below here wf nf t r =
      let mo : mid ≡ old = t.same wf in
      let nm : new ≡ mid = r.same nf in
      let no : new ≡ old = nm ∙ mo in
      record {
        count = ap length no;
        grows = λ f. let e = ap (λ (l : List ℕ). get_or l f 0) no in omega arith;
        sound = λ s. subst (IsSound frames stack cs main) (sym no) s;
        same = λ e. no;
        closed = λ e y k l at pos. by y k at pos (cases_lt k i) l nm mo;
      }
    where
      last : (y : Call) → x ≡ y → new ≡ mid → mid ≡ old → 0 < get_or old y.from 0 → value frames stack y (get_or old y.from 0) ≤ get_or old y.to 0
      last y e nm mo = subst (λ (z : Call). 0 < get_or old z.from 0 → value frames stack z (get_or old z.from 0) ≤ get_or old z.to 0) e
          (λ pos. subst (λ (l : List ℕ). value frames stack x (get_or old x.from 0) ≤ get_or l x.to 0) (nm ∙ mo)
          (subst (λ (l : List ℕ). 0 < get_or l x.from 0 → value frames stack x (get_or l x.from 0) ≤ get_or new x.to 0) mo r.done pos))

      by : (y : Call) (k : ℕ) → get_or cs k y ≡ y → 0 < get_or old y.from 0 → (k < i) ⊎ (i ≤ k) → k < i + 1 → new ≡ mid → mid ≡ old → value frames stack y (get_or old y.from 0) ≤ get_or old y.to 0
      by y k at pos (inl l) h nm mo = t.closed wf y k l at pos
      by y k at pos (inr l) h nm mo =
          let ki : k ≡ i = omega arith in
          let ai : get_or cs i y ≡ y = subst (λ (j : ℕ). get_or cs j y ≡ y) ki at in
          last y (sym here ∙ (get_or_default cs i x y below ∙ ai)) nm mo pos

  pub told_more : (i : ℕ) (old mid new : List ℕ) (was now : Bool) (x : Call) → i < length cs → get_or cs i x ≡ x → length new ≡ length mid → IsTold i old mid was → IsRelaxed frames stack x mid new now → IsTold (i + 1) old new (was || now)
  told_more i old mid new true now x below here n t r = told_changed i old mid new true now x (i, below, here) n t r
  told_more i old mid new false true x below here n t r = told_changed i old mid new false true x (i, below, here) n t r
  told_more i old mid new false false x below here n t r = told_same i old mid new false false x below here refl refl t r

-- ---- the functions of a call of a list

pub there_at : (n m i : ℕ) (cs : List Call) (x : Call) → AreThere n cs → m ≡ n → i < length cs → get_or cs i x ≡ x → IsThere m x
there_at n m i cs x all e below here = let t = all x (i, below, here) in subst (λ (k : ℕ). IsThere k x) (sym e) t

pub item_at : (cs : List Call) (i : ℕ) (d : Call) → i < length cs → get_or cs i (get_or cs i d) ≡ get_or cs i d
item_at cs i d below = get_or_default cs i (get_or cs i d) d below

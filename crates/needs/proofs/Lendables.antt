-- The locals that are lendable by what the needs list are the lendable ones.
use Rattle.std.proofs.Common.{◌≡◌, ◌↔◌, ℕ, ◌+◌, ◌<◌, ◌≤◌, Bool, true, false, List, [], ◌∷◌, ◌++◌, length, get_or, refl, sym, ap, subst, ◌∙◌, inl, inr, arith}
use Rattle.std.specs.Prelude.{◌⊎◌, Contains}
use Rattle.std.proofs.lemmas.Bool.{cases_lt, false≢true}
use Rattle.std.proofs.lemmas.List.{get_or_past}
use Rattle.ir_model.specs.declared.object.ObjId.{ObjId}
use Rattle.ir_model.specs.declared.object.ObjId.TheVariants.{Global, Periph, Local, Func}
use Rattle.ir_model.specs.Resolved.{Program, NumberedFunc, no_func, func_at}
use Rattle.ir_model.specs.State.{LocalObject}
use Rattle.ir_model.specs.Objects.{object_by}
use Rattle.ir_laws.specs.Sets.{ObjectSets, IsRead, IsWritten}
use Rattle.plan_model.specs.declared.needs.FuncNeed.{FuncNeed}
use Rattle.plan_model.specs.Calls.{IsCallee, Reaches, directly, further}
use Rattle.plan_model.specs.Lendable.{LendCause, OthersWrite, OthersRead, CallsItself, IsLendable}
use Rattle.plan_model.specs.Needs.{no_need, IsNeedOf}
use Rattle.needs.specs.Reaching.{Calls, Recurs, by_call, by_calls, AreRecursive}
use Rattle.needs.specs.Lent.{Lends, IsLentBy, IsOwnOf, IsLendableFor, IsLendableByNeeds}
use Rattle.need_lists.proofs.Exact.{pushed, appended}
use Rattle.need_laws.proofs.Listed.{reads_stand, writes_stand, calls_stand}

reaches_on : {p : Program} {S : ObjectSets} {f g h : ℕ} → Reaches p S f g → Reaches p S g h → Reaches p S f h
reaches_on (directly c) r = further c r
reaches_on (further c q) r = further c (reaches_on q r)

func_of_local : (fs : List NumberedFunc) (f l : ℕ) → l < length (get_or fs f no_func).locals → f < length fs
func_of_local fs f l h = by (cases_lt f (length fs))
  where
    by : (f < length fs) ⊎ (length fs ≤ f) → f < length fs
    by (inl b) = b
    by (inr b) = let e : length (get_or fs f no_func).locals ≡ 0 = ap (λ g. length g.locals) (get_or_past fs f no_func b) in absurd (omega arith)

module _ (p : Program) (S : ObjectSets) (closed : Bool) (ns : List FuncNeed) (count : length ns ≡ length p.funcs) (needs : (f : ℕ) → f < length p.funcs → IsNeedOf p S f (get_or ns f no_need)) where
  -- ---- calls

  reaches : {f g : ℕ} → Recurs ns f g → Reaches p S f g
  reaches {f} {g} (by_call x) = let l = x.0 in directly ((needs f (omega arith)).callees.each g x.2)
  reaches (by_calls x y) = reaches_on (reaches x) (reaches y)

  from_there : {f g : ℕ} → Reaches p S f g → f < length p.funcs
  from_there {f} {g} (directly c) = (calls_stand S p f c.0 c.1 g c.2).func
  from_there (further {f} {g} {h} c r) = (calls_stand S p f c.0 c.1 g c.2).func

  called : (f g : ℕ) → IsCallee p S f g → g < length p.funcs → Calls ns f g
  called f g c l =
      let s = (calls_stand S p f c.0 c.1 g c.2).func in
      let a : f < length ns = omega arith in
      let b : g < length ns = omega arith in
      (a, b, (needs f s).callees.all g c)

  recurs : {f g : ℕ} → g < length p.funcs → Reaches p S f g → Recurs ns f g
  recurs {f} {g} l (directly c) = by_call (called f g c l)
  recurs l (further {f} {g} {h} c r) = by_calls (by_call (called f g c (from_there r))) (recurs l r)

  -- ---- one local

  lendable_at : (f l : ℕ) (x : ℕ × ℕ) → x ≡ (f, l) → IsLendable p S closed f l → IsLendable p S closed x.0 x.1
  lendable_at f l x e h = subst (λ (y : ℕ × ℕ). IsLendable p S closed y.0 y.1) (sym e) h

  written : (g : ℕ) (x : ℕ × ℕ) (o : ObjId) → Lends p g x o → IsWritten p S g (object_by o) → IsLendable p S closed x.0 x.1
  written g x (Local f l) k w = lendable_at f l x k.0 (record { there = k.2; cause = OthersWrite g (λ e. k.1 (sym e)) w })
  written g x (Global v) k w = absurd k
  written g x (Periph q) k w = absurd k
  written g x (Func f) k w = absurd k

  read : (g : ℕ) (x : ℕ × ℕ) (o : ObjId) → closed ≡ true → Lends p g x o → IsRead p S g (object_by o) → IsLendable p S closed x.0 x.1
  read g x (Local f l) c k w = lendable_at f l x k.0 (record { there = k.2; cause = OthersRead g c (λ e. k.1 (sym e)) w })
  read g x (Global v) c k w = absurd k
  read g x (Periph q) c k w = absurd k
  read g x (Func f) c k w = absurd k

  by_need : (g : ℕ) (x : ℕ × ℕ) → g < length p.funcs → IsLentBy p closed g (get_or ns g no_need) x ⊎ (Recurs ns g g × IsOwnOf p g x) → IsLendable p S closed x.0 x.1
  by_need g x b (inl (inl a)) = written g x a.item a.holds ((needs g b).written.each a.item a.listed).1
  by_need g x b (inl (inr a)) = read g x a.1.item a.0 a.1.holds ((needs g b).read.each a.1.item a.1.listed).1
  by_need g x b (inr r) =
      let e = r.1.0 in
      record {
        there = subst (λ (f : ℕ). x.1 < length (func_at p f).locals) (sym e) r.1.1;
        cause = CallsItself (subst (λ (f : ℕ). Reaches p S f f) (sym e) (reaches r.0));
      }

  to_lendable : (x : ℕ × ℕ) → IsLendableByNeeds p closed ns x → IsLendable p S closed x.0 x.1
  to_lendable x h = let l = h.there in by_need h.func x (omega arith) h.cause

  from_cause : (f l : ℕ) → l < length (func_at p f).locals → LendCause p S closed f l → IsLendableByNeeds p closed ns (f, l)
  from_cause f l there (OthersWrite g apart w) =
      let s = (writes_stand S p g w.0 w.1 (LocalObject f l) w.2).func in
      record {
        func = g;
        there = omega arith;
        cause = inl (inl (record { item = Local f l; listed = (needs g s).written.all (Local f l) (tt, w); holds = (refl, (λ e. apart (sym e)), there) }));
      }
  from_cause f l there (OthersRead g c apart w) =
      let s = (reads_stand S p g w.0 w.1 (LocalObject f l) w.2).func in
      record {
        func = g;
        there = omega arith;
        cause = inl (inr (c, record { item = Local f l; listed = (needs g s).read.all (Local f l) (tt, w); holds = (refl, (λ e. apart (sym e)), there) }));
      }
  from_cause f l there (CallsItself r) =
      let s = func_of_local p.funcs f l there in
      record { func = f; there = omega arith; cause = inr (recurs s r, (refl, there)) }

  pub lendable_is : (x : ℕ × ℕ) → IsLendableByNeeds p closed ns x ↔ IsLendable p S closed x.0 x.1
  lendable_is x = (to_lendable x, λ h. from_cause x.0 x.1 h.there h.cause)

-- ---- loops over functions

-- one of the functions below a number
pub record AnyBelow (P : ℕ → Type 0) (n : ℕ) : Type 0 where
  pub number : ℕ
  pub below : number < n
  pub holds : P number

-- one function more: `D` holds where `C` did, or of this one
pub below_step : (P : ℕ → Type 0) (C D : Type 0) (n : ℕ) → C ↔ AnyBelow P n → D ↔ (C ⊎ P n) → D ↔ AnyBelow P (n + 1)
below_step P C D n c d = ((λ k. to (d.0 k)), λ a. d.1 (from a (cases_lt a.number n)))
  where
    to : C ⊎ P n → AnyBelow P (n + 1)
    to (inl k) = let a = c.0 k in let l = a.below in record { number = a.number; below = omega arith; holds = a.holds }
    to (inr h) = record { number = n; below = omega arith; holds = h }

    from : (a : AnyBelow P (n + 1)) → (a.number < n) ⊎ (n ≤ a.number) → C ⊎ P n
    from a (inl l) = inl (c.1 (record { number = a.number; below = l; holds = a.holds }))
    from a (inr l) = let b = a.below in let e : a.number ≡ n = omega arith in inr (subst P e a.holds)

-- ---- lists of locals

pub own_pushed : (f n : ℕ) (old new : List (ℕ × ℕ)) → new ≡ old ++ (f, n) ∷ [] → ((x : ℕ × ℕ) → Contains old x ↔ ((x.0 ≡ f) × (x.1 < n)))
    → (x : ℕ × ℕ) → Contains new x ↔ ((x.0 ≡ f) × (x.1 < n + 1))
own_pushed f n old new e h x = ((λ k. to (s.0 k)), λ k. s.1 (from k (cases_lt x.1 n)))
  where
    s : Contains new x ↔ (Contains old x ⊎ ((f, n) ≡ x))
    s = pushed old new (f, n) x ((f, n) ≡ x) e (λ k. k) (λ k. k)

    to : Contains old x ⊎ ((f, n) ≡ x) → (x.0 ≡ f) × (x.1 < n + 1)
    to (inl k) = let r = (h x).0 k in let l = r.1 in (r.0, omega arith)
    to (inr k) = (sym (ap (λ (y : ℕ × ℕ). y.0) k), (let q : n ≡ x.1 = ap (λ (y : ℕ × ℕ). y.1) k in omega arith))

    from : (x.0 ≡ f) × (x.1 < n + 1) → (x.1 < n) ⊎ (n ≤ x.1) → Contains old x ⊎ ((f, n) ≡ x)
    from k (inl l) = inl ((h x).1 (k.0, l))
    from k (inr l) = let b = k.1 in let q : x.1 ≡ n = omega arith in inr (ap (λ (a : ℕ). (a, n)) (sym k.0) ∙ ap (λ (b : ℕ). (x.0, b)) (sym q))

-- where a flag holds, others were put behind
pub put_if : (old zs new : List (ℕ × ℕ)) (b : Bool) (P Q : Type 0) (x : ℕ × ℕ) → b ≡ true → new ≡ old ++ zs → Contains old x ↔ P → Contains zs x ↔ Q → Contains new x ↔ (P ⊎ ((b ≡ true) × Q))
put_if old zs new b P Q x t e p q = either_flag (appended old new zs x Q e q)
  where
    either_flag : Contains new x ↔ (Contains old x ⊎ Q) → Contains new x ↔ (P ⊎ ((b ≡ true) × Q))
    either_flag s = ((λ k. to (s.0 k)), λ k. s.1 (from k))
      where
        to : Contains old x ⊎ Q → P ⊎ ((b ≡ true) × Q)
        to (inl k) = inl (p.0 k)
        to (inr k) = inr (t, k)

        from : P ⊎ ((b ≡ true) × Q) → Contains old x ⊎ Q
        from (inl k) = inl (p.1 k)
        from (inr k) = inr k.1

pub put_none : (old new : List (ℕ × ℕ)) (b : Bool) (P Q : Type 0) (x : ℕ × ℕ) → b ≡ false → new ≡ old → Contains old x ↔ P → Contains new x ↔ (P ⊎ ((b ≡ true) × Q))
put_none old new b P Q x f e p = ((λ k. inl (p.0 (subst (λ l. Contains l x) e k))), λ k. subst (λ l. Contains l x) (sym e) (from k))
  where
    from : P ⊎ ((b ≡ true) × Q) → Contains old x
    from (inl k) = p.1 k
    from (inr k) = absurd (false≢true (sym f ∙ k.0))

pub own_whole : (p : Program) (f : ℕ) (x : ℕ × ℕ) (n : ℕ) (ls : List (ℕ × ℕ)) → n ≡ length (func_at p f).locals → Contains ls x ↔ ((x.0 ≡ f) × (x.1 < n)) → Contains ls x ↔ IsOwnOf p f x
own_whole p f x n ls e h = subst (λ (m : ℕ). Contains ls x ↔ ((x.0 ≡ f) × (x.1 < m))) e h

pub by_needs : (p : Program) (closed : Bool) (ns : List FuncNeed) (flags : List Bool) (x : ℕ × ℕ) (n : ℕ) → n ≡ length ns → AreRecursive ns flags
    → (C : Type 0) → C ↔ AnyBelow (λ (g : ℕ). IsLendableFor p closed g (get_or ns g no_need) (get_or flags g false) x) n → C ↔ IsLendableByNeeds p closed ns x
by_needs p closed ns flags x n e r C h = ((λ k. to (h.0 k)), λ k. h.1 (from k))
  where
    to_cause : (g : ℕ) → g < length ns → IsLendableFor p closed g (get_or ns g no_need) (get_or flags g false) x → IsLentBy p closed g (get_or ns g no_need) x ⊎ (Recurs ns g g × IsOwnOf p g x)
    to_cause g l (inl k) = inl k
    to_cause g l (inr k) = inr ((r g l).0 k.0, k.1)

    from_cause : (g : ℕ) → g < length ns → IsLentBy p closed g (get_or ns g no_need) x ⊎ (Recurs ns g g × IsOwnOf p g x) → IsLendableFor p closed g (get_or ns g no_need) (get_or flags g false) x
    from_cause g l (inl k) = inl k
    from_cause g l (inr k) = inr ((r g l).1 k.0, k.1)

    to : AnyBelow (λ (g : ℕ). IsLendableFor p closed g (get_or ns g no_need) (get_or flags g false) x) n → IsLendableByNeeds p closed ns x
    to a = let l = a.below in let m : a.number < length ns = omega arith in record { func = a.number; there = m; cause = to_cause a.number m a.holds }

    from : IsLendableByNeeds p closed ns x → AnyBelow (λ (g : ℕ). IsLendableFor p closed g (get_or ns g no_need) (get_or flags g false) x) n
    from k = let l = k.there in record { number = k.func; below = omega arith; holds = from_cause k.func k.there k.cause }

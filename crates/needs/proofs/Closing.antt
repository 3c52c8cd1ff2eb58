-- Rows of flags that are closed function by function, and what they say of calls.
use Rattle.std.proofs.Common.{◌≡◌, ◌↔◌, ℕ, zero, suc, ◌+◌, ◌<◌, ◌≤◌, Bool, true, false, ◌||◌, ◌&&◌, List, [], ◌∷◌, ◌++◌, length, get_or, sym, ap, subst, ◌∙◌, inl, inr, arith}
use Rattle.std.specs.Prelude.{◌⊎◌, Contains}
use Rattle.std.proofs.lemmas.Bool.{and_parts, and_from, or_left, or_right, cases_lt, or_cases}
use Rattle.std.proofs.lemmas.List.{get_or_append_left, get_or_push, length_push}
use Rattle.plan_model.specs.declared.needs.FuncNeed.{FuncNeed}
use Rattle.plan_model.specs.Needs.{no_need}
use Rattle.needs.specs.Reaching.{leads, Leads, at_once, then_on, IsSquare, IsPassed, IsClosedBy, HasCallees, Calls, Recurs, by_call, by_calls}

pub closed_start : (first : List (List Bool)) → IsClosedBy 0 first first
closed_start first = record { kept = λ f g h. h; sound = λ f g h. at_once h; closed = λ f k g l. absurd (omega arith) }

module _ (k : ℕ) (first old new : List (List Bool)) (c : IsClosedBy k first old) (passed : IsPassed k old new) where
  now : (f g : ℕ) → (leads old f g || (leads old f k && leads old k g)) ≡ true → leads new f g ≡ true
  now f g h = passed f g ∙ h

  at_first : (f g : ℕ) → leads old f g ≡ true → leads new f g ≡ true
  at_first f g h = now f g (or_left (leads old f g) (leads old f k && leads old k g) h)

  through : (f g : ℕ) → leads old f k ≡ true → leads old k g ≡ true → leads new f g ≡ true
  through f g h i = now f g (or_right (leads old f g) (leads old f k && leads old k g) (and_from (leads old f k) (leads old k g) h i))

  parts : (f g : ℕ) → leads new f g ≡ true → (leads old f g ≡ true) ⊎ ((leads old f k ≡ true) × (leads old k g ≡ true))
  parts f g h = by (or_cases (leads old f g) (leads old f k && leads old k g) (sym (passed f g) ∙ h))
    where
      by : (leads old f g ≡ true) ⊎ ((leads old f k && leads old k g) ≡ true) → (leads old f g ≡ true) ⊎ ((leads old f k ≡ true) × (leads old k g ≡ true))
      by (inl x) = inl x
      by (inr x) = inr (and_parts (leads old f k) (leads old k g) x)

  to_k : (f : ℕ) → leads new f k ≡ true → leads old f k ≡ true
  to_k f h = by (parts f k h)
    where
      by : (leads old f k ≡ true) ⊎ ((leads old f k ≡ true) × (leads old k k ≡ true)) → leads old f k ≡ true
      by (inl x) = x
      by (inr x) = x.0

  from_k : (g : ℕ) → leads new k g ≡ true → leads old k g ≡ true
  from_k g h = by (parts k g h)
    where
      by : (leads old k g ≡ true) ⊎ ((leads old k k ≡ true) × (leads old k g ≡ true)) → leads old k g ≡ true
      by (inl x) = x
      by (inr x) = x.1

  before : (f j g : ℕ) → j < k → leads new f j ≡ true → leads new j g ≡ true → leads new f g ≡ true
  before f j g l x y = by (parts f j x) (parts j g y)
    where
      by : (leads old f j ≡ true) ⊎ ((leads old f k ≡ true) × (leads old k j ≡ true)) → (leads old j g ≡ true) ⊎ ((leads old j k ≡ true) × (leads old k g ≡ true)) → leads new f g ≡ true
      by (inl fj) (inl jg) = at_first f g (c.closed f j g l fj jg)
      by (inl fj) (inr jkg) = through f g (c.closed f j k l fj jkg.0) jkg.1
      by (inr fkj) (inl jg) = through f g fkj.0 (c.closed k j g l fkj.1 jg)
      by (inr fkj) (inr jkg) = through f g fkj.0 jkg.1

  last : (f j g : ℕ) → j ≡ k → leads new f j ≡ true → leads new j g ≡ true → leads new f g ≡ true
  last f j g e x y =
      through f g (to_k f (subst (λ i. leads new f i ≡ true) e x)) (from_k g (subst (λ i. leads new i g ≡ true) e y))

  is_sound : (f g : ℕ) → leads new f g ≡ true → Leads first f g
  is_sound f g h = by (parts f g h)
    where
      by : (leads old f g ≡ true) ⊎ ((leads old f k ≡ true) × (leads old k g ≡ true)) → Leads first f g
      by (inl x) = c.sound f g x
      by (inr x) = then_on (c.sound f k x.0) (c.sound k g x.1)

  is_closed : (f j g : ℕ) → j < k + 1 → leads new f j ≡ true → leads new j g ≡ true → leads new f g ≡ true
  is_closed f j g l x y = by (cases_lt j k)
    where
      by : (j < k) ⊎ (k ≤ j) → leads new f g ≡ true
      by (inl b) = before f j g b x y
      by (inr b) = last f j g (omega arith) x y

  pub closed_step : IsClosedBy (k + 1) first new
  closed_step = record { kept = λ f g h. at_first f g (c.kept f g h); sound = is_sound; closed = is_closed }

-- ---- calls

flag_there : (row : List Bool) (g : ℕ) → get_or row g false ≡ true → g < length row
flag_there [] g h = cc
flag_there (b ∷ bs) zero h = omega arith
flag_there (b ∷ bs) (suc g) h = let r = flag_there bs g h in omega arith

row_there : (rows : List (List Bool)) (f g : ℕ) → leads rows f g ≡ true → f < length rows
row_there [] f g h = cc
row_there (r ∷ rs) zero g h = omega arith
row_there (r ∷ rs) (suc f) g h = let l = row_there rs f g h in omega arith

module _ (ns : List FuncNeed) (first rows : List (List Bool)) (square : IsSquare (length ns) first) (callees : HasCallees ns first) (c : IsClosedBy (length ns) first rows) where
  called : (f g : ℕ) → leads first f g ≡ true → Calls ns f g
  called f g h =
      let e = square.count in
      let l = row_there first f g h in
      let below : f < length ns = omega arith in
      let q = square.each f below in
      let m = flag_there (get_or first f []) g h in
      let there : g < length ns = omega arith in
      (below, there, (callees f g below there).0 h)

  recurs : {f g : ℕ} → Leads first f g → Recurs ns f g
  recurs {f} {g} (at_once h) = by_call (called f g h)
  recurs (then_on x y) = by_calls (recurs x) (recurs y)

  target_there : {f g : ℕ} → Recurs ns f g → g < length ns
  target_there (by_call x) = x.1
  target_there (by_calls x y) = target_there y

  found : {f g : ℕ} → Recurs ns f g → leads rows f g ≡ true
  found {f} {g} (by_call x) = c.kept f g ((callees f g x.0 x.1).1 x.2)
  found (by_calls {f} {g} {h} x y) = c.closed f g h (target_there x) (found x) (found y)

  pub is_recursive : (f : ℕ) → leads rows f f ≡ true ↔ Recurs ns f f
  is_recursive f = ((λ h. recurs (c.sound f f h)), λ r. found r)

-- ---- loops

-- the flags of the first rows are those of the callees
pub record FirstRows (ns : List FuncNeed) (i : ℕ) (rows : List (List Bool)) : Type 0 where
  pub count : length rows ≡ i
  pub each : (f : ℕ) → f < i → length (get_or rows f []) ≡ length ns
  pub flags : (f g : ℕ) → f < i → g < length ns → leads rows f g ≡ true ↔ Contains (get_or ns f no_need).callees g

module _ (ns : List FuncNeed) (i : ℕ) (old new : List (List Bool)) (row : List Bool) (e : new ≡ old ++ row ∷ []) (below : i < length ns) (first : FirstRows ns i old)
    (count : length row ≡ length ns) (flags : (g : ℕ) → g < length ns → get_or row g false ≡ true ↔ Contains (get_or ns i no_need).callees g) where
  row_before : (f : ℕ) → f < i → get_or new f [] ≡ get_or old f []
  row_before f l = let n = first.count in let q : f < length old = omega arith in ap (λ r. get_or r f []) e ∙ get_or_append_left old (row ∷ []) [] f q

  row_last : (f : ℕ) → f ≡ i → get_or new f [] ≡ row
  row_last f q = let n = first.count in let h : length old ≡ f = omega arith in ap (λ r. get_or r f []) e ∙ get_or_push old row [] f h

  length_by : (f : ℕ) → (f < i) ⊎ (i ≤ f) → f < i + 1 → length (get_or new f []) ≡ length ns
  length_by f (inl l) h = ap length (row_before f l) ∙ first.each f l
  length_by f (inr l) h = ap length (row_last f (omega arith)) ∙ count

  flag_by : (f g : ℕ) → (f < i) ⊎ (i ≤ f) → f < i + 1 → g < length ns → leads new f g ≡ true ↔ Contains (get_or ns f no_need).callees g
  flag_by f g (inl l) h m = subst (λ r. (get_or r g false ≡ true) ↔ Contains (get_or ns f no_need).callees g) (sym (row_before f l)) (first.flags f g l m)
  flag_by f g (inr l) h m =
      let q : f ≡ i = omega arith in
      subst (λ r. (get_or r g false ≡ true) ↔ Contains (get_or ns f no_need).callees g) (sym (row_last f q))
      (subst (λ (k : ℕ). (get_or row g false ≡ true) ↔ Contains (get_or ns k no_need).callees g) (sym q) (flags g m))

  pub rows_pushed : FirstRows ns (i + 1) new
  rows_pushed =
      let n = first.count in
      let m : length new ≡ length old + 1 = ap length e ∙ length_push old row in
      record { count = omega arith; each = λ f h. length_by f (cases_lt f i) h; flags = λ f g h m. flag_by f g (cases_lt f i) h m }

-- Lists that are cut into stretches.
use Rattle.std.proofs.Common.{◌≡◌, ℕ, zero, suc, ◌+◌, ◌-◌, ◌/◌, ◌%◌, ◌<◌, ◌≤◌, Bool, true, false, ◌||◌, List, [], ◌∷◌, ◌++◌, length, get_or, set, take, refl, sym, ap, ◌∙◌, subst, arith, nat_eq, ◌⊎◌, inl, inr, Option, None, slice_get, append_assoc}
use Rattle.std.proofs.lemmas.List.{append-nil, length-append, length-set, get_or-set_same, get_or-set_other, get_or_default, take_all}
use Rattle.std.proofs.lemmas.List.Folds.{list_any-append}
use Rattle.std.proofs.lemmas.Bool.{false≢true, eqb-true, eq-eqb, or_left, or_right, cases_lt}
use Rattle.std.specs.Prelude.{Result, Ok, Err, OnOk, OnErr}
use Rattle.need_numbers.specs.Rows.{has}
use Rattle.need_numbers.specs.Stretches.{joined, AreCut}
use Rattle.need_numbers.proofs.Runs.{get_left, get_right, past}

pub none_cut : AreCut []
none_cut = record { full = λ k l. absurd (omega arith); short = λ k. omega arith }

rest_cut : (x : List ℕ) (ss : List (List ℕ)) → AreCut (x ∷ ss) → AreCut ss
rest_cut x ss c = record { full = λ k l. c.full (suc k) (omega arith); short = λ k. c.short (suc k) }

-- the number at a place
pub place_at : (ss : List (List ℕ)) (p : ℕ) → AreCut ss → slice_get (joined ss) p ≡ slice_get (get_or ss (p / 256) []) (p % 256)
place_at [] p c = refl
place_at (x ∷ []) p c = at (cases_lt p 256)
  where
    at : (p < 256) ⊎ (256 ≤ p) → slice_get (x ++ []) p ≡ slice_get (get_or (x ∷ []) (p / 256) []) (p % 256)
    at (inl l) =
        let a : p / 256 ≡ 0 = omega arith in
        let b : p % 256 ≡ p = omega arith in
        ap (λ ys. slice_get ys p) (append-nil x) ∙ (ap (slice_get x) (sym b) ∙ ap (λ k. slice_get (get_or (x ∷ []) k []) (p % 256)) (sym a))
    at (inr l) =
        let s = c.short 0 in
        let a : p / 256 ≡ suc (p / 256 - 1) = omega arith in
        ap (λ ys. slice_get ys p) (append-nil x) ∙ (past x p (omega arith) ∙ ap (λ k. slice_get (get_or (x ∷ []) k []) (p % 256)) (sym a))
place_at (x ∷ y ∷ ss) p c = at (cases_lt p 256) (place_at (y ∷ ss) (p - 256) (rest_cut x (y ∷ ss) c))
  where
    full : length x ≡ 256
    full = c.full 0 (omega arith)

    at : (p < 256) ⊎ (256 ≤ p) → slice_get (joined (y ∷ ss)) (p - 256) ≡ slice_get (get_or (y ∷ ss) ((p - 256) / 256) []) ((p - 256) % 256) → slice_get (x ++ joined (y ∷ ss)) p ≡ slice_get (get_or (x ∷ y ∷ ss) (p / 256) []) (p % 256)
    at (inl l) ih =
        let a : p / 256 ≡ 0 = omega arith in
        let b : p % 256 ≡ p = omega arith in
        get_left x (joined (y ∷ ss)) p (let f = full in omega arith) ∙ (ap (slice_get x) (sym b) ∙ ap (λ k. slice_get (get_or (x ∷ y ∷ ss) k []) (p % 256)) (sym a))
    at (inr l) ih =
        let a : p / 256 ≡ suc ((p - 256) / 256) = omega arith in
        let b : (p - 256) % 256 ≡ p % 256 = omega arith in
        get_right x (joined (y ∷ ss)) p (p - 256) (let f = full in omega arith)
        ∙ (ih
        ∙ (ap (slice_get (get_or (y ∷ ss) ((p - 256) / 256) [])) b ∙ ap (λ k. slice_get (get_or (x ∷ y ∷ ss) k []) (p % 256)) (sym a)))

pub placed : (ss : List (List ℕ)) (p : ℕ) (x : List ℕ) (r : Option ℕ) → AreCut ss → p / 256 < length ss → x ≡ get_or ss (p / 256) x → r ≡ slice_get x (p % 256) → r ≡ slice_get (joined ss) p
placed ss p x r c l e f = f ∙ (ap (λ ys. slice_get ys (p % 256)) (e ∙ get_or_default ss (p / 256) x [] l) ∙ sym (place_at ss p c))

pub none_there : (ss : List (List ℕ)) (p : ℕ) → AreCut ss → length ss ≤ p / 256 → None ≡ slice_get (joined ss) p
none_there ss p c l = sym (place_at ss p c ∙ ap (λ ys. slice_get ys (p % 256)) (gone ss (p / 256) l))
  where
    gone : (ss : List (List ℕ)) (k : ℕ) → length ss ≤ k → get_or ss k [] ≡ []
    gone [] k l = refl
    gone (x ∷ ss) zero l = absurd (omega arith)
    gone (x ∷ ss) (suc k) l = gone ss k (omega arith)

-- one number more, in the last stretch
joined_last : (ss : List (List ℕ)) (n o : ℕ) → suc n ≡ length ss → joined (set ss n (get_or ss n [] ++ o ∷ [])) ≡ joined ss ++ o ∷ []
joined_last [] n o e = absurd (omega arith)
joined_last (x ∷ []) zero o e = append-nil (x ++ o ∷ []) ∙ ap (λ ys. ys ++ o ∷ []) (sym (append-nil x))
joined_last (x ∷ []) (suc n) o e = absurd (omega arith)
joined_last (x ∷ y ∷ ss) zero o e = absurd (omega arith)
joined_last (x ∷ y ∷ ss) (suc n) o e = ap (λ ys. x ++ ys) (joined_last (y ∷ ss) n o (omega arith)) ∙ sym (append_assoc x (joined (y ∷ ss)) (o ∷ []))

pub more_in_last : (ss : List (List ℕ)) (n o : ℕ) (x y : List ℕ) → suc n ≡ length ss → x ≡ get_or ss n [] → y ≡ x ++ o ∷ [] → joined (set ss n y) ≡ joined ss ++ o ∷ []
more_in_last ss n o x y e f g = ap (λ z. joined (set ss n z)) (g ∙ ap (λ z. z ++ o ∷ []) f) ∙ joined_last ss n o e

pub cut_in_last : (ss : List (List ℕ)) (n o : ℕ) (x y : List ℕ) → suc n ≡ length ss → x ≡ get_or ss n [] → y ≡ x ++ o ∷ [] → (length x ≡ 256 → ⊥) → AreCut ss → AreCut (set ss n y)
cut_in_last ss n o x y e f g d c = record {
  full = λ k l. ap length (get_or-set_other ss n k y [] (λ i. let s = length-set ss n y in omega (arith, i, l, e, s))) ∙ c.full k (let s = length-set ss n y in omega arith);
  short = λ k. at k (nat_eq k n) refl;
}
  where
    at : (k : ℕ) (b : Bool) → nat_eq k n ≡ b → length (get_or (set ss n y) k []) ≤ 256
    at k true q =
        let i : k ≡ n = eqb-true k n q in
        let a : get_or (set ss n y) n [] ≡ y = get_or-set_same ss n y [] (omega arith) in
        let z : length y ≡ length x + 1 = ap length g ∙ length-append x (o ∷ []) in
        let s : length x ≤ 256 = subst (λ w. length w ≤ 256) (sym f) (c.short n) in
        subst (λ j. length (get_or (set ss n y) j []) ≤ 256) (sym i) (subst (λ w. length w ≤ 256) (sym a) (omega (arith, z, s, d)))
    at k false q =
        let i : k ≡ n → ⊥ = λ i. false≢true (sym q ∙ eq-eqb k n i) in
        subst (λ w. length w ≤ 256) (sym (get_or-set_other ss n k y [] i)) (c.short k)

-- and in a stretch of its own
joined_more : (ss : List (List ℕ)) (y : List ℕ) → joined (ss ++ y ∷ []) ≡ joined ss ++ y
joined_more [] y = append-nil y
joined_more (x ∷ ss) y = ap (λ ys. x ++ ys) (joined_more ss y) ∙ sym (append_assoc x (joined ss) y)

pub more_behind : (ss : List (List ℕ)) (o : ℕ) (x y : List ℕ) → x ≡ [] → y ≡ x ++ o ∷ [] → joined (ss ++ y ∷ []) ≡ joined ss ++ o ∷ []
more_behind ss o x y e f = joined_more ss y ∙ ap (λ z. joined ss ++ z) (f ∙ ap (λ z. z ++ o ∷ []) e)

-- a number is in the stretches that were looked at
neither : (a b : Bool) → (a || b) ≡ false → (a ≡ false) × (b ≡ false)
neither true b i = absurd (false≢true (sym i))
neither false b i = (refl, i)

both : (a b : Bool) → a ≡ false → b ≡ false → a || b ≡ false
both a b i j = ap (λ c. c || b) i ∙ j

not_yet : (ss : List (List ℕ)) (i o : ℕ) (x : List ℕ) → i < length ss → x ≡ get_or ss i x → has o (joined (take i ss)) ≡ false → has o x ≡ false → has o (joined (take (suc i) ss)) ≡ false
not_yet [] i o x l e f g = absurd (omega arith)
not_yet (s ∷ ss) zero o x l e f g = ap (has o) (append-nil s) ∙ (ap (has o) (sym e) ∙ g)
not_yet (s ∷ ss) (suc i) o x l e f g =
    let h = neither (has o s) (has o (joined (take i ss))) (sym (list_any-append (nat_eq o) s (joined (take i ss))) ∙ f) in
    list_any-append (nat_eq o) s (joined (take (suc i) ss)) ∙ both (has o s) (has o (joined (take (suc i) ss))) h.0 (not_yet ss i o x (omega arith) e h.1 g)

pub not_in_more : (ss : List (List ℕ)) (i o : ℕ) (x : List ℕ) (r : Bool) → i < length ss → x ≡ get_or ss i x → has o (joined (take i ss)) ≡ false → r ≡ has o x → r ≡ false → has o (joined (take (i + 1) ss)) ≡ false
not_in_more ss i o x r l e f g h = let q : i + 1 ≡ suc i = omega arith in ap (λ m. has o (joined (take m ss))) q ∙ not_yet ss i o x l e f (sym g ∙ h)

there : (ss : List (List ℕ)) (i o : ℕ) (x : List ℕ) → i < length ss → x ≡ get_or ss i x → has o x ≡ true → has o (joined ss) ≡ true
there [] i o x l e g = absurd (omega arith)
there (s ∷ ss) zero o x l e g = list_any-append (nat_eq o) s (joined ss) ∙ or_left (has o s) (has o (joined ss)) (ap (has o) (sym e) ∙ g)
there (s ∷ ss) (suc i) o x l e g = list_any-append (nat_eq o) s (joined ss) ∙ or_right (has o s) (has o (joined ss)) (there ss i o x (omega arith) e g)

pub is_there : (ss : List (List ℕ)) (i o : ℕ) (x : List ℕ) (r : Bool) → i < length ss → x ≡ get_or ss i x → r ≡ has o x → r ≡ true → true ≡ has o (joined ss)
is_there ss i o x r l e f g = sym (there ss i o x l e (sym f ∙ g))

pub in_none : (ss : List (List ℕ)) (i o : ℕ) → length ss ≤ i → has o (joined (take i ss)) ≡ false → false ≡ has o (joined ss)
in_none ss i o l e = sym e ∙ ap (λ (ys : List (List ℕ)). has o (joined ys)) (take_all i ss l)

-- a number that is looked for among runs, one run more
pub ruleset cut_rules = (not_in_more, is_there, in_none)

-- a stretch that was looked at twice
pub alike_at : (ss : List (List ℕ)) (n : ℕ) (x y : List ℕ) → n < length ss → x ≡ get_or ss n x → y ≡ get_or ss n y → x ≡ y
alike_at ss n x y l e f = e ∙ (get_or_default ss n x y l ∙ sym f)

set_same : (ss : List (List ℕ)) (n : ℕ) (x : List ℕ) → x ≡ get_or ss n x → set ss n x ≡ ss
set_same [] n x e = refl
set_same (s ∷ ss) zero x e = ap (λ y. y ∷ ss) e
set_same (s ∷ ss) (suc n) x e = ap (λ ys. s ∷ ys) (set_same ss n x e)

-- whether the push into the last stretch found memory or not
pub cut_either : {X Y : Type 0} (r : Result X Y) (ss : List (List ℕ)) (n o : ℕ) (x y : List ℕ) → suc n ≡ length ss → x ≡ get_or ss n x → OnOk r (y ≡ x ++ o ∷ []) → OnErr r (y ≡ x) → (length x ≡ 256 → ⊥) → AreCut ss → AreCut (set ss n y)
cut_either (Ok u) ss n o x y e f g h d c = cut_in_last ss n o x y e (f ∙ get_or_default ss n x [] (omega arith)) g d c
cut_either (Err u) ss n o x y e f g h d c = subst AreCut (sym (ap (set ss n) h ∙ set_same ss n x f)) c

pub pushed_either : {X Y : Type 0} (r : Result X Y) (ss : List (List ℕ)) (n o : ℕ) (x y v : List ℕ) → suc n ≡ length ss → x ≡ get_or ss n x → OnOk r (y ≡ x ++ o ∷ []) → joined ss ≡ v → OnOk r (joined (set ss n y) ≡ v ++ o ∷ [])
pushed_either (Ok u) ss n o x y v e f g w = more_in_last ss n o x y e (f ∙ get_or_default ss n x [] (omega arith)) g ∙ ap (λ z. z ++ o ∷ []) w
pushed_either (Err u) ss n o x y v e f g w = tt

-- a run that begins with a number
pub run_behind : (ss : List (List ℕ)) (o : ℕ) (x y : List ℕ) (b : Bool) → x ≡ [] → b ≡ true → (b ≡ true → y ≡ x ++ o ∷ []) → joined (ss ++ y ∷ []) ≡ joined ss ++ o ∷ []
run_behind ss o x y b e t f = more_behind ss o x y e (f t)

-- whether the last run goes on or not
pub gone_on : (ss : List (List ℕ)) (n o : ℕ) (x y : List ℕ) (b : Bool) → suc n ≡ length ss → x ≡ get_or ss n x → (b ≡ true → y ≡ x ++ o ∷ []) → b ≡ true → joined (set ss n y) ≡ joined ss ++ o ∷ []
gone_on ss n o x y b e f g t = more_in_last ss n o x y e (f ∙ get_or_default ss n x [] (omega arith)) (g t)

-- the place of a number among runs, and behind them
in_one : (ss : List (List ℕ)) (ys : List ℕ) (at p rest : ℕ) (x : List ℕ) → at < length ss → x ≡ get_or ss at x → rest < length x → rest + length (joined (take at ss)) ≡ p → slice_get x rest ≡ slice_get (joined ss ++ ys) p
in_one [] ys at p rest x l e m q = absurd (omega arith)
in_one (s ∷ ss) ys zero p rest x l e m q =
    let n = ap length e in
    let i : rest ≡ p = omega arith in
    ap (λ z. slice_get z rest) e ∙ (ap (slice_get s) i ∙ sym (get_left (s ++ joined ss) ys p (let k = length-append s (joined ss) in omega arith) ∙ get_left s (joined ss) p (omega arith)))
in_one (s ∷ ss) ys (suc at) p rest x l e m q =
    let k = length-append s (joined (take at ss)) in
    in_one ss ys at (p - length s) rest x (omega arith) e m (omega arith)
    ∙ sym (ap (λ z. slice_get z p) (append_assoc s (joined ss) ys) ∙ get_right s (joined ss ++ ys) p (p - length s) (omega arith))

pub in_runs : (ss : List (List ℕ)) (ys : List ℕ) (at p rest count : ℕ) (x y : List ℕ) (r : Option ℕ) → at < length ss → x ≡ get_or ss at x → count ≡ length x → rest < count → y ≡ get_or ss at y → r ≡ slice_get y rest → rest + length (joined (take at ss)) ≡ p → r ≡ slice_get (joined ss ++ ys) p
in_runs ss ys at p rest count x y r l e c m f g q =
    let a = ap length (alike_at ss at x y l e f) in
    g ∙ in_one ss ys at p rest y l f (omega arith) q

one_more_taken : (ss : List (List ℕ)) (at : ℕ) (x : List ℕ) → at < length ss → x ≡ get_or ss at x → length (joined (take (suc at) ss)) ≡ length (joined (take at ss)) + length x
one_more_taken [] at x l e = absurd (omega arith)
one_more_taken (s ∷ ss) zero x l e = let n = ap length e in let k = length-append s [] in omega arith
one_more_taken (s ∷ ss) (suc at) x l e =
    let a = length-append s (joined (take (suc at) ss)) in
    let b = length-append s (joined (take at ss)) in
    let h = one_more_taken ss at x (omega arith) e in omega arith

pub past_more : (ss : List (List ℕ)) (at p rest count : ℕ) (x : List ℕ) → at < length ss → x ≡ get_or ss at x → count ≡ length x → count ≤ rest → rest + length (joined (take at ss)) ≡ p → rest - count + length (joined (take (at + 1) ss)) ≡ p
past_more ss at p rest count x l e c m q =
    let i : at + 1 ≡ suc at = omega arith in
    let a = ap (λ k. length (joined (take k ss))) i in
    let b = one_more_taken ss at x l e in omega arith

pub behind_runs : (ss : List (List ℕ)) (ys : List ℕ) (at p rest : ℕ) (r : Option ℕ) → length ss ≤ at → r ≡ slice_get ys rest → rest + length (joined (take at ss)) ≡ p → r ≡ slice_get (joined ss ++ ys) p
behind_runs ss ys at p rest r l e q =
    let a = ap (λ (zs : List (List ℕ)). length (joined zs)) (take_all at ss l) in
    e ∙ sym (get_right (joined ss) ys p rest (omega arith))

-- The first address that one of some windows has, window by window.
use Rattle.std.proofs.Common.{◌≡◌, ℕ, ◌+◌, ◌-◌, ◌<◌, ◌≤◌, ◌||◌, true, false, nat_le, nat_lt, refl, List, [], ◌∷◌, map, length, take, get_or, subst, ap, sym, ◌∙◌, arith}
use Rattle.std.proofs.lemmas.Bool.{leb-true, ltb-true, le-leb, lt-ltb, and_from, and_parts, or_from, or_left, false_from_ne_true}
use Rattle.std.proofs.lemmas.List.{map-append, get_or-map, length-map}
use Rattle.std.proofs.lemmas.List.Folds.{list_any-append, list_any_at}
use Rattle.ir_model.specs.Resolved.{NumberedWindow}
use Rattle.ir_program.specs.declared.program.Span.{Span}
use Rattle.ir_program.specs.Parts.{span_of}
use Rattle.plan_report.specs.Undeclared.{is_among, is_declared, undeclared_from}
use Rattle.plan_report.proofs.Growing.{item_more}
use Rattle.plan_report.proofs.Firsts.{count_is, either}

-- ---- an address of a range

pub among : (b n a : ℕ) → b ≤ a → a < b + n → is_among b n a ≡ true
among b n a l h = and_from (nat_le b a) (nat_lt a (b + n)) (le-leb b a l) (lt-ltb a (b + n) h)

pub inside : (b n a : ℕ) → is_among b n a ≡ true → (b ≤ a) × (a < b + n)
inside b n a h = let p = and_parts (nat_le b a) (nat_lt a (b + n)) h in (leb-true b a p.0, ltb-true a (b + n) p.1)

-- ---- no window

pub first_of_none : (a e : ℕ) → a ≤ e → e ≡ a + undeclared_from [] a (e - a)
first_of_none a e l =
    let k : undeclared_from [] a (e - a) ≡ e - a = count_is (is_declared []) a (e - a) (e - a) (omega arith) (λ b from to. refl) (λ h. absurd (omega (arith, h))) in
    omega (arith, k, l)

-- ---- one window

one : (w : NumberedWindow) (a : ℕ) → is_among w.base w.size a ≡ false → is_declared (w ∷ []) a ≡ false
one w a h = or_from (is_among w.base w.size a) false h refl

-- it has an address before the end
pub first_here : (w : NumberedWindow) (a e f : ℕ) → a ≤ f → w.base ≤ f → ((b : ℕ) → a ≤ b → b < f → b < w.base) → f < e → f < w.base + w.size → f ≡ a + undeclared_from (w ∷ []) a (e - a)
first_here w a e f l base least h end =
    let k : undeclared_from (w ∷ []) a (e - a) ≡ f - a = count_is (is_declared (w ∷ [])) a (e - a) (f - a) (omega (arith, h, l))
    (λ b from to. one w b (false_from_ne_true (is_among w.base w.size b) (λ y. let p = inside w.base w.size b y in let q = least b from (omega (arith, to, l)) in omega (arith, p.0, q))))
    (λ _. let same : f ≡ a + (f - a) = omega (arith, l) in subst (λ x. is_declared (w ∷ []) x ≡ true) same (or_left (is_among w.base w.size f) false (among w.base w.size f base end))) in
    omega (arith, k, l)

-- it has none
pub first_behind : (w : NumberedWindow) (a e : ℕ) → a ≤ e → ((b : ℕ) → a ≤ b → b < e → w.base ≤ b → w.base + w.size ≤ b) → e ≡ a + undeclared_from (w ∷ []) a (e - a)
first_behind w a e l none =
    let k : undeclared_from (w ∷ []) a (e - a) ≡ e - a = count_is (is_declared (w ∷ [])) a (e - a) (e - a) (omega arith)
    (λ b from to. one w b (false_from_ne_true (is_among w.base w.size b) (λ y. let p = inside w.base w.size b y in let q = none b from (omega (arith, to, l)) p.0 in omega (arith, p.1, q))))
    (λ h. absurd (omega (arith, h))) in
    omega (arith, k, l)

-- ---- one window more

more : (xs : List Span) (i : ℕ) (x d : Span) → i < length xs → x ≡ get_or xs i d → (a : ℕ)
    → is_declared (map span_of (take (i + 1) xs)) a ≡ (is_declared (map span_of (take i xs)) a || is_declared (span_of x ∷ []) a)
more xs i x d l e a =
    ap (λ ws. is_declared ws a) (ap (map span_of) (item_more xs i x d l e) ∙ map-append span_of (take i xs) (x ∷ []))
    ∙ list_any-append (λ (w : NumberedWindow). is_among w.base w.size a) (map span_of (take i xs)) (span_of x ∷ [])

pub first_more : (xs : List Span) (i : ℕ) (x d : Span) (a e f g : ℕ) → i < length xs → x ≡ get_or xs i d
    → f ≡ a + undeclared_from (map span_of (take i xs)) a (e - a) → g ≡ a + undeclared_from (span_of x ∷ []) a (f - a)
    → g ≡ a + undeclared_from (map span_of (take (i + 1) xs)) a (e - a)
first_more xs i x d a e f g l is before now =
    let count : f - a ≡ undeclared_from (map span_of (take i xs)) a (e - a) = omega (arith, before) in
    now ∙ ap (λ n. a + undeclared_from (span_of x ∷ []) a n) count
    ∙ ap (λ n. a + n) (sym (either (is_declared (map span_of (take i xs))) (is_declared (span_of x ∷ [])) (is_declared (map span_of (take (i + 1) xs))) a (e - a) (more xs i x d l is)))

-- ---- a window of them has the address

pub declared_at : (xs : List Span) (i : ℕ) (x d : Span) (a : ℕ) → i < length xs → x ≡ get_or xs i d → is_among x.base x.size a ≡ true → is_declared (map span_of xs) a ≡ true
declared_at xs i x d a l e h =
    list_any_at (λ (w : NumberedWindow). is_among w.base w.size a) (map span_of xs) i (span_of d) (omega (arith, l, length-map xs span_of))
    (subst (λ (w : NumberedWindow). is_among w.base w.size a ≡ true) (sym (get_or-map span_of xs i d (span_of d) l ∙ ap span_of (sym e))) h)

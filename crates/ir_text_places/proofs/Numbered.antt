-- The numbers of names in rows.
use Rattle.std.proofs.Common.{◌≡◌, ◌≤◌, ℕ, zero, suc, ◌+◌, ◌-◌, List, [], ◌∷◌, ◌++◌, length, take, drop, length-drop, Bool, true, false, not, ◌&&◌, cond, Option, Some, None, is_some, refl, sym, ap, ◌∙◌, arith, bytes_eq, Bor, if◌then◌else◌, MatchOption}
use Rattle.std.specs.List.{position, position_from}
use Rattle.std.proofs.lemmas.Iterator.Adapters.{position_from-zero}
use Rattle.std.proofs.lemmas.List.{take_all}
use Rattle.base_names.specs.Numbers.{has, number_of}
use Rattle.ir_text_places.specs.Faulty.{Names, behind_first, has_twice, second_of, number_in}
use Rattle.ir_text_places.specs.Rows.{names_in}

abbrev Row : Type 0
Row = List (Bor (List ℕ))

abbrev is_name : List ℕ → Bor (List ℕ) → Bool
is_name n m = bytes_eq m.now n

-- ---- the first

or_end : Option ℕ → ℕ → ℕ
or_end (Some k) l = k
or_end None l = l

number_from : (ns : Row) (n : List ℕ) (i : ℕ) → or_end (position_from (is_name n) i ns) (i + length ns) ≡ i + number_of (names_in ns) n
unfolding or_end
number_from [] n i = refl
number_from (m ∷ ns) n i = by_test (bytes_eq m.now n) (number_from ns n (i + 1))
  where
    by_test : (b : Bool) → or_end (position_from (is_name n) (i + 1) ns) (i + 1 + length ns) ≡ i + 1 + number_of (names_in ns) n
        → or_end (cond b (Some i) (position_from (is_name n) (i + 1) ns)) (i + suc (length ns)) ≡ i + (if b then zero else suc (number_of (names_in ns) n))
    by_test true ih = omega arith
    by_test false ih =
        let e : i + suc (length ns) ≡ i + 1 + length ns = omega arith in
        let f : i + suc (number_of (names_in ns) n) ≡ i + 1 + number_of (names_in ns) n = omega arith in
        ap (or_end (position_from (is_name n) (i + 1) ns)) e ∙ (ih ∙ sym f)

number_or_end : (ns : Row) (n : List ℕ) → or_end (position (is_name n) ns) (length ns) ≡ number_of (names_in ns) n
number_or_end ns n =
    let l : length ns ≡ 0 + length ns = omega arith in
    let z : 0 + number_of (names_in ns) n ≡ number_of (names_in ns) n = omega arith in
    ap (λ o. or_end o (length ns)) (position_from-zero (is_name n) ns) ∙ (ap (or_end (position_from (is_name n) 0 ns)) l ∙ (number_from ns n 0 ∙ z))

pub number_some : (ns : Row) (n : List ℕ) (k : ℕ) → Some k ≡ position (is_name n) ns → k ≡ number_of (names_in ns) n
unfolding or_end
number_some ns n k e = ap (λ o. or_end o (length ns)) e ∙ number_or_end ns n

pub number_none : (ns : Row) (n : List ℕ) → None ≡ position (is_name n) ns → length ns ≡ number_of (names_in ns) n
unfolding or_end
number_none ns n e = ap (λ o. or_end o (length ns)) e ∙ number_or_end ns n

pub number_most : (ms : Names) (n : List ℕ) → number_of ms n ≤ length ms
number_most [] n = omega arith
number_most (m ∷ ms) n = by_test (bytes_eq m n) (number_most ms n)
  where
    by_test : (b : Bool) → number_of ms n ≤ length ms → (if b then zero else suc (number_of ms n)) ≤ suc (length ms)
    by_test true ih = omega arith
    by_test false ih = omega arith

names_length : (ns : Row) → length (names_in ns) ≡ length ns
names_length [] = refl
names_length (n ∷ ns) = ap suc (names_length ns)

pub number_within : (ns : Row) (n : List ℕ) → number_of (names_in ns) n ≤ length ns
number_within ns n = let h = number_most (names_in ns) n in let e = names_length ns in omega arith

has_from : (ns : Row) (n : List ℕ) (i : ℕ) → is_some (position_from (is_name n) i ns) ≡ has (names_in ns) n
has_from [] n i = refl
has_from (m ∷ ns) n i = by_test (bytes_eq m.now n) (has_from ns n (i + 1))
  where
    by_test : (b : Bool) → is_some (position_from (is_name n) (i + 1) ns) ≡ has (names_in ns) n
        → is_some (cond b (Some i) (position_from (is_name n) (i + 1) ns)) ≡ (if b then true else has (names_in ns) n)
    by_test true ih = refl
    by_test false ih = ih

pub has_position : (ns : Row) (n : List ℕ) → is_some (position (is_name n) ns) ≡ has (names_in ns) n
has_position ns n = ap is_some (position_from-zero (is_name n) ns) ∙ has_from ns n 0

-- ---- the second

drop_names : (k : ℕ) (ns : Row) → names_in (drop k ns) ≡ drop k (names_in ns)
drop_names zero ns = refl
drop_names (suc k) [] = refl
drop_names (suc k) (n ∷ ns) = drop_names k ns

pub behind_is : (ns : Row) (n : List ℕ) (first k : ℕ) (behind : Row) → first ≡ number_of (names_in ns) n → k ≡ first + 1 → behind ≡ drop k ns → names_in behind ≡ behind_first (names_in ns) n
behind_is ns n first k behind e f b =
    let s : k ≡ suc (number_of (names_in ns) n) = omega arith in
    ap names_in b ∙ (drop_names k ns ∙ ap (λ j. drop j (names_in ns)) s)

-- the slice behind so many, as the code holds it
pub slice_behind : (ns : Row) (k : ℕ) → take (length ns - k) (drop k ns) ≡ drop k ns
slice_behind ns k = let e = length-drop k ns in take_all (length ns - k) (drop k ns) (omega arith)

drop_past : (k : ℕ) (ms : Names) → length ms ≤ k → drop k ms ≡ []
drop_past zero [] h = refl
drop_past zero (m ∷ ms) h = absurd (omega arith)
drop_past (suc k) [] h = refl
drop_past (suc k) (m ∷ ms) h = drop_past k ms (omega arith)

-- none is there, so there is no second
pub no_first : (ns : Row) (n : List ℕ) (first : ℕ) → first ≡ number_of (names_in ns) n → length ns ≤ first → has_twice (names_in ns) n ≡ false
no_first ns n first e l =
    let h = names_length ns in
    let i : length (names_in ns) ≤ suc (number_of (names_in ns) n) = omega arith in
    ap (λ ms. has ms n) (drop_past (suc (number_of (names_in ns) n)) (names_in ns) i)

pub second_yes : (ms : Names) (n : List ℕ) (first k more : ℕ) → first ≡ number_of ms n → k ≡ first + 1 → has_twice ms n ≡ true → more ≡ number_of (behind_first ms n) n → k + more ≡ second_of ms n
second_yes ms n first k more e f h m =
    let g : second_of ms n ≡ suc (number_of ms n) + number_of (behind_first ms n) n = ap (λ (b : Bool). if b then suc (number_of ms n) + number_of (behind_first ms n) n else number_of ms n) h in
    let i : k + more ≡ suc (number_of ms n) + number_of (behind_first ms n) n = omega arith in
    i ∙ sym g

pub second_no : (ms : Names) (n : List ℕ) → has_twice ms n ≡ false → number_of ms n ≡ second_of ms n
second_no ms n h = sym (ap (λ (b : Bool). if b then suc (number_of ms n) + number_of (behind_first ms n) n else number_of ms n) h)

-- ---- in a row

pub in_again : (before row : Names) (again : Bool) (n : List ℕ) → again ≡ true → has before n ≡ false → second_of row n ≡ number_in before row again n
in_again before row again n a h = let e : (again && not (has before n)) ≡ true = rw (a, h) refl in sym (ap (λ (b : Bool). if b then second_of row n else number_of row n) e)

pub in_once : (before row : Names) (again : Bool) (n : List ℕ) → (again && not (has before n)) ≡ false → number_of row n ≡ number_in before row again n
in_once before row again n e = sym (ap (λ (b : Bool). if b then second_of row n else number_of row n) e)

pub alone_again : (row : Names) (again : Bool) (n : List ℕ) → again ≡ true → second_of row n ≡ number_in [] row again n
alone_again row true n e = refl
alone_again row false n e = cc

pub alone_once : (row : Names) (again : Bool) (n : List ℕ) → again ≡ false → number_of row n ≡ number_in [] row again n
alone_once row true n e = cc
alone_once row false n e = refl

-- whether there is a second
pub twice_is : (o : Option ℕ) (ms : Names) (n : List ℕ) → MatchOption o (has_twice ms n ≡ false) (λ (k : ℕ). (has_twice ms n ≡ true) × (k ≡ second_of ms n)) → is_some o ≡ has_twice ms n
twice_is None ms n h = sym h
twice_is (Some k) ms n h = sym h.0

-- ---- rows that are put

-- a row that was empty, lent
pub row_is : (new old slice : Row) (ms : Names) → old ≡ [] → names_in new ≡ names_in old ++ ms → slice ≡ new → names_in slice ≡ ms
row_is new old slice ms o n s = ap names_in s ∙ (n ∙ ap (λ (r : Row). names_in r ++ ms) o)

pub alone_is : (k : ℕ) (slice : Row) (again given : Bool) (ms : Names) (n : List ℕ) → k ≡ number_in [] (names_in slice) given n → given ≡ again → names_in slice ≡ ms → k ≡ number_in [] ms again n
alone_is k slice again given ms n e i s = e ∙ (ap (λ (a : Bool). number_in [] (names_in slice) a n) i ∙ ap (λ (ms : Names). number_in [] ms again n) s)

pub in_is : (k : ℕ) (front slice : Row) (again given : Bool) (before ms : Names) (n : List ℕ)
    → k ≡ number_in (names_in front) (names_in slice) given n → given ≡ again → names_in front ≡ before → names_in slice ≡ ms → k ≡ number_in before ms again n
in_is k front slice again given before ms n e i f s =
    e
    ∙ (ap (λ (a : Bool). number_in (names_in front) (names_in slice) a n) i
    ∙ (ap (λ (bs : Names). number_in bs (names_in slice) again n) f ∙ ap (λ (ms : Names). number_in before ms again n) s))

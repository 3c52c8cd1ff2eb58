-- The lines of a text: the first one, and those of what follows it.
use Rattle.std.proofs.Common.{◌≡◌, ◌<◌, ◌≤◌, ℕ, ◌+◌, List, [], ◌∷◌, refl, ap, sym, ◌∙◌, Bool, true, false, not, ◌&&◌, cond, length, take, drop, suc, arith, nat_eq, nat_lt, if◌then◌else◌, Some, None, position, map, length-drop}
use Rattle.std.specs.List.{prefix_len}
use Rattle.std.proofs.lemmas.Bool.Decides.{nat_tests}
use Rattle.std.proofs.lemmas.List.{nil_from_length}
use Rattle.machine_devices.specs.Tape.{lines_of, ends_line, before_first, rows_of, row_of}
use Rattle.machine_devices.specs.Lines.{without_return}

-- the bytes before the first line feed
abbrev front : List ℕ → List ℕ
front [] = []
front (b ∷ bs) = if nat_eq b 10 then [] else (b ∷ front bs)

-- and those from there on
abbrev rest : List ℕ → List ℕ
rest [] = []
rest (b ∷ bs) = if nat_eq b 10 then b ∷ bs else rest bs

abbrev line_len : List ℕ → ℕ
line_len bs = prefix_len (λ b. not (nat_eq b 10)) bs

front-is : (bs : List ℕ) → take (line_len bs) bs ≡ front bs
front-is [] = refl
front-is (b ∷ bs) = by_test (nat_eq b 10) (front-is bs)
  where
    by_test : (t : Bool) → take (line_len bs) bs ≡ front bs
        → take (cond (not t) (1 + line_len bs) 0) (b ∷ bs) ≡ (if t then [] else (b ∷ front bs))
    by_test true e = refl
    by_test false e = (let n : 1 + line_len bs ≡ suc (line_len bs) = omega arith in rw n (ap (λ xs. b ∷ xs) e))

rest-is : (bs : List ℕ) → drop (line_len bs) bs ≡ rest bs
rest-is [] = refl
rest-is (b ∷ bs) = by_test (nat_eq b 10) (rest-is bs)
  where
    by_test : (t : Bool) → drop (line_len bs) bs ≡ rest bs
        → drop (cond (not t) (1 + line_len bs) 0) (b ∷ bs) ≡ (if t then b ∷ bs else rest bs)
    by_test true e = refl
    by_test false e = (let n : 1 + line_len bs ≡ suc (line_len bs) = omega arith in rw n e)

lines_of-nil : lines_of [] ≡ [] ∷ []
unfolding lines_of
lines_of-nil = refl

lines_of-feed : (b : ℕ) (bs : List ℕ) → nat_eq b 10 ≡ true → lines_of (b ∷ bs) ≡ [] ∷ lines_of bs
unfolding lines_of
lines_of-feed b bs h = rw h refl

lines_of-other : (b : ℕ) (bs : List ℕ) → nat_eq b 10 ≡ false
    → lines_of (b ∷ bs) ≡ (if ends_line b bs then lines_of bs else before_first b (lines_of bs))
unfolding lines_of
lines_of-other b bs h = rw h refl

no_end : (b c : ℕ) → nat_eq c 10 ≡ false → (nat_eq b 13 && nat_eq c 10) ≡ false
no_end b c h = rw h (by_test (nat_eq b 13))
  where
    by_test : (t : Bool) → (t && false) ≡ false
    by_test true = refl
    by_test false = refl

-- a byte before a line whose end is known
before_line : (b c : ℕ) (cs : List ℕ) (lines : List (List ℕ))
    → (if ends_line b (c ∷ cs) then without_return (front (c ∷ cs)) ∷ lines else before_first b (without_return (front (c ∷ cs)) ∷ lines))
    ≡ without_return (b ∷ front (c ∷ cs)) ∷ lines
before_line b c cs lines = by_feed (nat_eq c 10) refl
  where
    by_return : (t : Bool)
        → (if t then [] ∷ lines else (b ∷ []) ∷ lines) ≡ (if t then [] else (b ∷ [])) ∷ lines
    by_return true = refl
    by_return false = refl

    and_true : (t : Bool) → (t && true) ≡ t
    and_true true = refl
    and_true false = refl

    by_feed : (t : Bool) → nat_eq c 10 ≡ t
        → (if (nat_eq b 13 && nat_eq c 10) then without_return (front (c ∷ cs)) ∷ lines else before_first b (without_return (front (c ∷ cs)) ∷ lines))
        ≡ without_return (b ∷ front (c ∷ cs)) ∷ lines
    by_feed true h = rw (h, and_true (nat_eq b 13)) (by_return (nat_eq b 13))
    by_feed false h = rw (no_end b c h, h) refl

-- a text with a line feed
lines_of-front : (bs : List ℕ) (c : ℕ) (cs : List ℕ) → rest bs ≡ c ∷ cs → lines_of bs ≡ without_return (front bs) ∷ lines_of cs
lines_of-front [] c cs h = cc
lines_of-front (b ∷ []) c cs h = by_test (nat_eq b 10) refl
  where
    by_test : (t : Bool) → nat_eq b 10 ≡ t → lines_of (b ∷ []) ≡ without_return (front (b ∷ [])) ∷ lines_of cs
    by_test true e =
        (let here : b ∷ [] ≡ c ∷ cs = rw e at h in
        let same : [] ≡ cs = cc in
        lines_of-feed b [] e ∙ rw (e, same) refl)
    by_test false e = (let none : [] ≡ c ∷ cs = rw e at h in cc)
lines_of-front (b ∷ d ∷ ds) c cs h = by_test (nat_eq b 10) refl (λ later. lines_of-front (d ∷ ds) c cs later)
  where
    by_test : (t : Bool) → nat_eq b 10 ≡ t
        → (rest (d ∷ ds) ≡ c ∷ cs → lines_of (d ∷ ds) ≡ without_return (front (d ∷ ds)) ∷ lines_of cs)
        → lines_of (b ∷ d ∷ ds) ≡ without_return (front (b ∷ d ∷ ds)) ∷ lines_of cs
    by_test true e ih =
        (let here : b ∷ d ∷ ds ≡ c ∷ cs = rw e at h in
        let same : d ∷ ds ≡ cs = cc in
        lines_of-feed b (d ∷ ds) e ∙ rw (e, ← same) refl)
    by_test false e ih =
        (let later : rest (d ∷ ds) ≡ c ∷ cs = rw e at h in
        lines_of-other b (d ∷ ds) e
        ∙ (ap (λ lines. if ends_line b (d ∷ ds) then lines else before_first b lines) (ih later)
        ∙ (before_line b d ds (lines_of cs) ∙ rw e refl)))

-- a text without one
lines_of-last : (bs : List ℕ) → rest bs ≡ [] → lines_of bs ≡ bs ∷ []
lines_of-last [] h = lines_of-nil
lines_of-last (b ∷ bs) h = by_test (nat_eq b 10) refl (λ later. lines_of-last bs later)
  where
    no_feed : (xs : List ℕ) → rest xs ≡ [] → ends_line b xs ≡ false
    no_feed [] r = refl
    no_feed (c ∷ cs) r = by_feed (nat_eq c 10) refl
      where
        by_feed : (t : Bool) → nat_eq c 10 ≡ t → (nat_eq b 13 && nat_eq c 10) ≡ false
        by_feed true e = (let here : c ∷ cs ≡ [] = rw e at r in cc)
        by_feed false e = no_end b c e

    by_test : (t : Bool) → nat_eq b 10 ≡ t → (rest bs ≡ [] → lines_of bs ≡ bs ∷ []) → lines_of (b ∷ bs) ≡ (b ∷ bs) ∷ []
    by_test true e ih = (let here : b ∷ bs ≡ [] = rw e at h in cc)
    by_test false e ih =
        (let later : rest bs ≡ [] = rw e at h in
        lines_of-other b bs e ∙ rw (no_feed bs later, ih later) refl)

-- what a search for the first line feed tells
found_at : (bs : List ℕ) (k : ℕ) → position (λ b. nat_eq b 10) bs ≡ Some k → (line_len bs ≡ k) × (k < length bs)
found_at bs k h = by_test (nat_lt (line_len bs) (length bs)) refl h
  where
    by_test : (t : Bool) → nat_lt (line_len bs) (length bs) ≡ t → cond t (Some (line_len bs)) None ≡ Some k → (line_len bs ≡ k) × (k < length bs)
    by_test true e g = (let same : line_len bs ≡ k = cc in (same, grind (arith, nat_tests)))
    by_test false e g = cc

found_none : (bs : List ℕ) → position (λ b. nat_eq b 10) bs ≡ None → length bs ≤ line_len bs
found_none bs h = by_test (nat_lt (line_len bs) (length bs)) refl h
  where
    by_test : (t : Bool) → nat_lt (line_len bs) (length bs) ≡ t → cond t (Some (line_len bs)) None ≡ None → length bs ≤ line_len bs
    by_test true e g = cc
    by_test false e g = grind (arith, nat_tests)

lines_of-more : (bs xs : List ℕ) → rest bs ≡ xs → 0 < length xs → lines_of bs ≡ without_return (front bs) ∷ lines_of (drop 1 xs)
lines_of-more bs [] h l = absurd (omega arith)
lines_of-more bs (c ∷ cs) h l = lines_of-front bs c cs h

-- the first row of a text with a line feed, and the rows behind it
pub rows_of-more : (bs : List ℕ) (k : ℕ) → position (λ b. nat_eq b 10) bs ≡ Some k
    → rows_of bs ≡ row_of (without_return (take k bs)) ∷ rows_of (drop 1 (drop k bs))
rows_of-more bs k h =
    let f = found_at bs k h in
    let r : rest bs ≡ drop k bs = sym (rest-is bs) ∙ ap (λ n. drop n bs) f.0 in
    let g : front bs ≡ take k bs = sym (front-is bs) ∙ ap (λ n. take n bs) f.0 in
    ap (map row_of)
    (lines_of-more bs (drop k bs) r (omega (arith, length-drop k bs))
    ∙ ap (λ xs. without_return xs ∷ lines_of (drop 1 (drop k bs))) g)

pub found_within : (bs : List ℕ) (k : ℕ) → position (λ b. nat_eq b 10) bs ≡ Some k → k < length bs
found_within bs k h = (found_at bs k h).1

-- the row of a text without one
pub rows_of-last : (bs : List ℕ) → position (λ b. nat_eq b 10) bs ≡ None → rows_of bs ≡ row_of bs ∷ []
rows_of-last bs h =
    let far = found_none bs h in
    ap (map row_of) (lines_of-last bs (sym (rest-is bs) ∙ nil_from_length (drop (line_len bs) bs) (omega (arith, length-drop (line_len bs) bs))))

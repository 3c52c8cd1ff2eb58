-- The lines of a text: the first one, and those of what follows it.
use Rattle.std.proofs.Common.{◌≡◌, ◌<◌, ◌≤◌, ℕ, zero, suc, ◌+◌, List, [], ◌∷◌, ◌++◌, refl, ap, sym, ◌∙◌, Bool, true, false, cond, Some, None, length, take, drop, get_or, map, arith, nat_eq, nat_lt, position, option_map, append_assoc}
use Rattle.std.specs.Borrow.{Bor}
use Rattle.std.specs.List.{position_or_len}
use Rattle.std.proofs.lemmas.Bool.Decides.{nat_tests}
use Rattle.std.proofs.lemmas.List.{map-append}
use Rattle.std.proofs.lemmas.List.Sums.{fails_before_first}
use Rattle.std.proofs.lemmas.List.Quantifiers.{position-Some}
use Rattle.machine_devices.specs.Tape.{before_first}
use Rattle.aces_explain.specs.KeyLines.{lines_of, parts_of}

lines_of-nil : lines_of [] ≡ [] ∷ []
unfolding lines_of
lines_of-nil = refl

lines_of-feed : (b : ℕ) (bs : List ℕ) → nat_eq b 10 ≡ true → lines_of (b ∷ bs) ≡ [] ∷ lines_of bs
unfolding lines_of
lines_of-feed b bs h = rw h refl

lines_of-other : (b : ℕ) (bs : List ℕ) → nat_eq b 10 ≡ false → lines_of (b ∷ bs) ≡ before_first b (lines_of bs)
unfolding lines_of
lines_of-other b bs h = rw h refl

-- a text whose first line feed has this place
more_at : (bs : List ℕ) (k : ℕ) → k < length bs → nat_eq (get_or bs k 0) 10 ≡ true → ((i : ℕ) → i < k → nat_eq (get_or bs i 0) 10 ≡ false)
    → lines_of bs ≡ take k bs ∷ lines_of (drop 1 (drop k bs))
more_at [] k l p f = absurd (omega arith)
more_at (b ∷ bs) zero l p f = lines_of-feed b bs p
more_at (b ∷ bs) (suc k) l p f =
    lines_of-other b bs (f 0 (omega arith)) ∙ ap (before_first b) (more_at bs k (omega arith) p (λ i h. f (suc i) (omega arith)))

-- a text without line feeds
last_at : (bs : List ℕ) → ((i : ℕ) → i < length bs → nat_eq (get_or bs i 0) 10 ≡ false) → lines_of bs ≡ bs ∷ []
last_at [] f = lines_of-nil
last_at (b ∷ bs) f = lines_of-other b bs (f 0 (omega arith)) ∙ ap (before_first b) (last_at bs (λ i h. f (suc i) (omega arith)))

-- ---- by what a search tells

abbrev feed : ℕ → Bool
feed b = nat_eq b 10

no_feed : (bs : List ℕ) → position feed bs ≡ None → (i : ℕ) → i < length bs → nat_eq (get_or bs i 0) 10 ≡ false
no_feed bs h i l = by_test (nat_lt (position_or_len feed bs) (length bs)) refl h
  where
    by_test : (t : Bool) → nat_lt (position_or_len feed bs) (length bs) ≡ t → cond t (Some (position_or_len feed bs)) None ≡ None → nat_eq (get_or bs i 0) 10 ≡ false
    by_test true e g = cc
    by_test false e g =
        let far : length bs ≤ position_or_len feed bs = grind (arith, nat_tests) in
        fails_before_first feed bs i 0 (omega arith)

pub within : (bs : List ℕ) (k : ℕ) → position (λ b. nat_eq b 10) bs ≡ Some k → k < length bs
within bs k h = (position-Some feed bs k 0 h).0

more : (bs : List ℕ) (k : ℕ) → position feed bs ≡ Some k → lines_of bs ≡ take k bs ∷ lines_of (drop 1 (drop k bs))
more bs k h = let x = position-Some feed bs k 0 h in more_at bs k x.0 x.1 x.2

-- ---- lines as they are found

-- what a list of lines by reference has
abbrev pub seen_lines : List (Bor (List ℕ)) → List (List ℕ)
seen_lines ls = map (λ (line : Bor (List ℕ)). line.now) ls

pub begun : (text : List ℕ) (ls : List (Bor (List ℕ))) → ls ≡ [] → seen_lines ls ++ lines_of text ≡ lines_of text
begun text ls e = rw e refl

pub one_more : (text rest behind : List ℕ) (k : ℕ) (ls more_lines : List (Bor (List ℕ))) (line : Bor (List ℕ)) → seen_lines ls ++ lines_of rest ≡ lines_of text
    → position (λ b. nat_eq b 10) rest ≡ Some k → more_lines ≡ ls ++ line ∷ [] → line.now ≡ take k rest → behind ≡ drop 1 (drop k rest)
    → seen_lines more_lines ++ lines_of behind ≡ lines_of text
one_more text rest behind k ls more_lines line h p m l b =
    ap (λ xs. seen_lines xs ++ lines_of behind) m
    ∙ (ap (λ xs. xs ++ lines_of behind) (map-append (λ (line : Bor (List ℕ)). line.now) ls (line ∷ []))
    ∙ (append_assoc (seen_lines ls) (line.now ∷ []) (lines_of behind)
    ∙ (ap (λ xs. seen_lines ls ++ (xs ∷ lines_of behind)) l
    ∙ (ap (λ xs. seen_lines ls ++ (take k rest ∷ lines_of xs)) b
    ∙ (ap (λ xs. seen_lines ls ++ xs) (sym (more rest k p)) ∙ h)))))

pub ended : (text rest : List ℕ) (ls more_lines : List (Bor (List ℕ))) (line : Bor (List ℕ)) → seen_lines ls ++ lines_of rest ≡ lines_of text
    → position (λ b. nat_eq b 10) rest ≡ None → more_lines ≡ ls ++ line ∷ [] → line.now ≡ rest → seen_lines more_lines ≡ lines_of text
ended text rest ls more_lines line h p m l =
    ap seen_lines m
    ∙ (map-append (λ (line : Bor (List ℕ)). line.now) ls (line ∷ [])
    ∙ (ap (λ xs. seen_lines ls ++ xs ∷ []) l
    ∙ (ap (λ xs. seen_lines ls ++ xs) (sym (last_at rest (no_feed rest p))) ∙ h)))

-- ---- what stands behind a place

cut_suc : (bs : List ℕ) (k : ℕ) → drop 1 (drop k bs) ≡ drop (suc k) bs
cut_suc [] zero = refl
cut_suc [] (suc k) = refl
cut_suc (b ∷ bs) zero = refl
cut_suc (b ∷ bs) (suc k) = cut_suc bs k

cut_at : (bs : List ℕ) (k : ℕ) → drop 1 (drop k bs) ≡ drop (k + 1) bs
cut_at bs k = let e : suc k ≡ k + 1 = omega arith in cut_suc bs k ∙ ap (λ n. drop n bs) e

-- a path that is cut at its first point
pub parted : (p : List ℕ) (k : ℕ) (front rest back : List ℕ) → position (λ b. nat_eq b 46) p ≡ Some k → front ≡ take k p → rest ≡ drop k p → back ≡ drop 1 rest
    → Some (front, back) ≡ parts_of p
parted p k front rest back h f r b =
    let word : back ≡ drop (k + 1) p = b ∙ (ap (drop 1) r ∙ cut_at p k) in
    ap (λ (x : List ℕ). Some (x, back)) f ∙ (ap (λ (x : List ℕ). Some (take k p, x)) word
    ∙ sym (ap (option_map (λ (j : ℕ). (take j p, drop (j + 1) p))) h))

-- The first number below a bound that passes a test, and the nearest header before a line.
use Rattle.std.proofs.Common.{◌≡◌, ◌<◌, ◌≤◌, ℕ, zero, suc, ◌+◌, List, [], ◌∷◌, refl, ap, sym, ◌∙◌, subst, Bool, true, false, cond, Option, Some, None, length, take, get_or, reverse, slice_get, option_copied, arith}
use Rattle.std.specs.Borrow.{Bor}
use Rattle.std.specs.Prelude.{find}
use Rattle.std.specs.List.{position_or_len, range_with_len}
use Rattle.std.proofs.lemmas.List.{take_more, reverse-append, length-map, get_or-map}
use Rattle.std.proofs.lemmas.List.Folds.{find_at}
use Rattle.std.proofs.lemmas.List.Sums.{position_or_len_is}
use Rattle.std.proofs.lemmas.List.FromFn.{length-range_with_len, get_or-range_with_len}
use Rattle.std.proofs.lemmas.Option.{slice_get-get_or}
use Rattle.plan_model.specs.Lists.{numbers_below}
use Rattle.aces_explain.specs.KeyLines.{key_line, is_key_line, header_over, is_header}
use Rattle.aces_explain.proofs.BoardLines.{seen_lines}

below : (test : ℕ → Bool) (n i : ℕ) → i < n → get_or (numbers_below n) i 0 ≡ i
below test n i l = get_or-range_with_len 0 n i 0 l ∙ (omega arith)

found_below : (test : ℕ → Bool) (n m : ℕ) → m < n → test m ≡ true → ((i : ℕ) → i < m → test i ≡ false) → find test (numbers_below n) ≡ Some m
found_below test n m l p f =
    let long : length (numbers_below n) ≡ n = length-range_with_len 0 n in
    let first : position_or_len test (numbers_below n) ≡ m =
    position_or_len_is test (numbers_below n) m 0 (omega arith)
    (λ k h. subst (λ x. test x ≡ false) (sym (below test n k (omega arith))) (f k h))
    (λ h. subst (λ x. test x ≡ true) (sym (below test n m l)) p) in
    find_at test (numbers_below n) ∙ (ap (slice_get (numbers_below n)) first
    ∙ (slice_get-get_or (numbers_below n) m 0 (omega arith) ∙ ap Some (below test n m l)))

none_from : (test : ℕ → Bool) (a n : ℕ) → ((i : ℕ) → a ≤ i → i < a + n → test i ≡ false) → find test (range_with_len a n) ≡ None
none_from test a zero f = refl
none_from test a (suc n) f =
    ap (λ b. cond b (Some a) (find test (range_with_len (a + 1) n))) (f a (omega arith) (omega arith))
    ∙ none_from test (a + 1) n (λ i u v. f i (omega arith) (omega arith))

none_below : (test : ℕ → Bool) (n : ℕ) → ((i : ℕ) → i < n → test i ≡ false) → find test (numbers_below n) ≡ None
none_below test n f = none_from test 0 n (λ i u v. f i (omega arith))

-- ---- the line of a path

-- whether the line of a number is that of a path
abbrev pub is_at : (path : List ℕ) → List (List ℕ) → ℕ → Bool
is_at p ls k = is_key_line p (header_over ls k) (get_or ls k [])

found : (p : List ℕ) (ls : List (List ℕ)) (k : ℕ) → k < length ls → is_at p ls k ≡ true → ((i : ℕ) → i < k → is_at p ls i ≡ false) → key_line p ls ≡ Some k
unfolding key_line
found p ls k l h f = found_below (is_at p ls) (length ls) k l h f

not_found : (p : List ℕ) (ls : List (List ℕ)) → ((i : ℕ) → i < length ls → is_at p ls i ≡ false) → key_line p ls ≡ None
unfolding key_line
not_found p ls f = none_below (is_at p ls) (length ls) f

header_next : (ls : List (List ℕ)) (k : ℕ) → k < length ls
    → header_over ls (k + 1) ≡ cond (is_header (get_or ls k [])) (Some (get_or ls k [])) (header_over ls k)
header_next ls k l =
    ap (λ xs. find is_header (reverse xs)) (take_more ls k [] l)
    ∙ ap (find is_header) (reverse-append (take k ls) (get_or ls k [] ∷ []))

-- ---- the same of lines by reference, as the code has them

seen_long : (ls : List (Bor (List ℕ))) → length (seen_lines ls) ≡ length ls
seen_long ls = length-map ls (λ (line : Bor (List ℕ)). line.now)

seen_at : (ls : List (Bor (List ℕ))) (k : ℕ) (d : Bor (List ℕ)) → k < length ls → (get_or ls k d).now ≡ get_or (seen_lines ls) k []
seen_at ls k d l = sym (get_or-map (λ (line : Bor (List ℕ)). line.now) ls k d [] l)

pub here : (p : List ℕ) (ls : List (Bor (List ℕ))) (k : ℕ) (h : Option (List ℕ)) (d : Bor (List ℕ)) (b : Bool) → k < length ls → h ≡ header_over (seen_lines ls) k
    → b ≡ is_key_line p h (get_or ls k d).now → is_at p (seen_lines ls) k ≡ b
here p ls k h d b l e r =
    sym (r ∙ (ap (λ (x : Option (List ℕ)). is_key_line p x (get_or ls k d).now) e ∙ ap (is_key_line p (header_over (seen_lines ls) k)) (seen_at ls k d l)))

pub found_seen : (p : List ℕ) (ls : List (Bor (List ℕ))) (k : ℕ) → k < length ls → is_at p (seen_lines ls) k ≡ true → ((i : ℕ) → i < k → is_at p (seen_lines ls) i ≡ false)
    → Some k ≡ key_line p (seen_lines ls)
found_seen p ls k l h f = sym (found p (seen_lines ls) k (omega (arith, seen_long ls)) h f)

pub none_seen : (p : List ℕ) (ls : List (Bor (List ℕ))) (k : ℕ) → length ls ≤ k → ((i : ℕ) → i < k → is_at p (seen_lines ls) i ≡ false) → None ≡ key_line p (seen_lines ls)
none_seen p ls k l f = sym (not_found p (seen_lines ls) (λ i h. f i (omega (arith, seen_long ls))))

pub header_passed : (ls : List (Bor (List ℕ))) (k : ℕ) (d : Bor (List ℕ)) (after : Option (Bor (List ℕ))) → k < length ls → after ≡ Some (get_or ls k d)
    → is_header (get_or ls k d).now ≡ true → option_copied after ≡ header_over (seen_lines ls) (k + 1)
header_passed ls k d after l e t =
    let line = seen_at ls k d l in
    let is : is_header (get_or (seen_lines ls) k []) ≡ true = ap is_header (sym line) ∙ t in
    ap option_copied e ∙ (ap Some line
    ∙ sym (header_next (seen_lines ls) k (omega (arith, seen_long ls)) ∙ ap (λ (b : Bool). cond b (Some (get_or (seen_lines ls) k [])) (header_over (seen_lines ls) k)) is))

pub header_stays : (ls : List (Bor (List ℕ))) (k : ℕ) (d : Bor (List ℕ)) (before after : Option (Bor (List ℕ))) → k < length ls → after ≡ before
    → option_copied before ≡ header_over (seen_lines ls) k → is_header (get_or ls k d).now ≡ false → option_copied after ≡ header_over (seen_lines ls) (k + 1)
header_stays ls k d before after l e h t =
    let line = seen_at ls k d l in
    let is : is_header (get_or (seen_lines ls) k []) ≡ false = ap is_header (sym line) ∙ t in
    ap option_copied e ∙ (h
    ∙ sym (header_next (seen_lines ls) k (omega (arith, seen_long ls)) ∙ ap (λ (b : Bool). cond b (Some (get_or (seen_lines ls) k [])) (header_over (seen_lines ls) k)) is))

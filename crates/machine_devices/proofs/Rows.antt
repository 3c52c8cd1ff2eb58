-- What rows put into the queues of windows.
use Rattle.std.proofs.Common.{◌≡◌, ◌<◌, ℕ, ◌+◌, List, [], ◌∷◌, ◌++◌, refl, ap, sym, ◌∙◌, Bool, true, false, length, zero, suc, arith, if◌then◌else◌, map, set, get_or, append_assoc, add-one}
use Rattle.std.specs.Str.{bytes_eq}
use Rattle.std.proofs.lemmas.List.{append-nil}
use Rattle.machine_devices.specs.declared.image.Window.{Window}
use Rattle.machine_devices.specs.Tape.{Row, Blank, Entry, Bad, words_named}
use Rattle.machine_devices.specs.Queues.{with_row, all_empty}

-- ---- the queues after a row was put for the first k windows

abbrev pub so_far : Row → ℕ → List Window → List (List ℕ) → List (List ℕ)
so_far r zero ws qs = qs
so_far r (suc k) [] qs = qs
so_far r (suc k) (w ∷ ws) [] = []
so_far r (suc k) (w ∷ ws) (q ∷ qs) = (q ++ words_named w.name (r ∷ [])) ∷ so_far r k ws qs

pub so_far-all : (r : Row) (ws : List Window) (qs : List (List ℕ)) (k : ℕ) → k ≡ length ws → so_far r k ws qs ≡ with_row r ws qs
so_far-all r [] qs zero h = refl
so_far-all r [] qs (suc k) h = refl
so_far-all r (w ∷ ws) qs zero h = absurd (omega arith)
so_far-all r (w ∷ ws) [] (suc k) h = refl
so_far-all r (w ∷ ws) (q ∷ qs) (suc k) h = ap (λ l. (q ++ words_named w.name (r ∷ [])) ∷ l) (so_far-all r ws qs k (omega arith))

so_far-suc : (r : Row) (k : ℕ) (ws : List Window) (qs : List (List ℕ)) (w : Window) → k < length ws → length qs ≡ length ws
    → so_far r (suc k) ws qs ≡ set (so_far r k ws qs) k (get_or (so_far r k ws qs) k [] ++ words_named (get_or ws k w).name (r ∷ []))
so_far-suc r k [] qs v h e = absurd (omega arith)
so_far-suc r k (w ∷ ws) [] v h e = absurd (omega arith)
so_far-suc r zero (w ∷ ws) (q ∷ qs) v h e = refl
so_far-suc r (suc k) (w ∷ ws) (q ∷ qs) v h e =
    ap (λ l. (q ++ words_named w.name (r ∷ [])) ∷ l) (so_far-suc r k ws qs v (omega arith) (omega arith))

set-same : (qs : List (List ℕ)) (k : ℕ) → set qs k (get_or qs k [] ++ []) ≡ qs
set-same [] k = refl
set-same (q ∷ qs) zero = ap (λ l. l ∷ qs) (append-nil q)
set-same (q ∷ qs) (suc k) = ap (λ l. q ∷ l) (set-same qs k)

-- the next window has the name
pub so_far-named : (name : List ℕ) (v k : ℕ) (ws : List Window) (old qs new : List (List ℕ)) (w : Window) → k < length ws → length old ≡ length ws
    → w ≡ get_or ws k w → bytes_eq name w.name ≡ true → qs ≡ so_far (Entry name v) k ws old → new ≡ set qs k (get_or qs k [] ++ v ∷ [])
    → new ≡ so_far (Entry name v) (k + 1) ws old
so_far-named name v k ws old qs new w h e i t s n =
    let r = Entry name v in
    let put : words_named (get_or ws k w).name (r ∷ []) ≡ v ∷ [] = ap (λ x. words_named x.name (r ∷ [])) (sym i) ∙ rw t refl in
    rw add-one
    (n ∙ (ap (λ z. set z k (get_or z k [] ++ v ∷ [])) s
    ∙ (ap (λ y. set (so_far r k ws old) k (get_or (so_far r k ws old) k [] ++ y)) (sym put)
    ∙ sym (so_far-suc r k ws old w h e))))

-- or not
pub so_far-other : (name : List ℕ) (v k : ℕ) (ws : List Window) (old qs : List (List ℕ)) (w : Window) → k < length ws → length old ≡ length ws
    → w ≡ get_or ws k w → bytes_eq name w.name ≡ false → qs ≡ so_far (Entry name v) k ws old
    → qs ≡ so_far (Entry name v) (k + 1) ws old
so_far-other name v k ws old qs w h e i t s =
    let r = Entry name v in
    let none : words_named (get_or ws k w).name (r ∷ []) ≡ [] = ap (λ x. words_named x.name (r ∷ [])) (sym i) ∙ rw t refl in
    rw add-one
    (s ∙ (sym (set-same (so_far r k ws old) k)
    ∙ (ap (λ y. set (so_far r k ws old) k (get_or (so_far r k ws old) k [] ++ y)) (sym none)
    ∙ sym (so_far-suc r k ws old w h e))))

-- ---- the words of rows, one row after the other

-- each queue before another
abbrev pub before : List (List ℕ) → List (List ℕ) → List (List ℕ)
before [] ys = []
before (x ∷ xs) [] = x ∷ xs
before (x ∷ xs) (y ∷ ys) = (x ++ y) ∷ before xs ys

abbrev pub queues_from : List Window → List Row → List (List ℕ)
queues_from ws rows = map (λ w. words_named w.name rows) ws

words_named-cons : (name : List ℕ) (r : Row) (rows : List Row) → words_named name (r ∷ rows) ≡ words_named name (r ∷ []) ++ words_named name rows
words_named-cons name Blank rows = refl
words_named-cons name Bad rows = refl
words_named-cons name (Entry other v) rows = by_test (bytes_eq other name)
  where
    by_test : (t : Bool) → (if t then v ∷ words_named name rows else words_named name rows) ≡ (if t then v ∷ [] else []) ++ words_named name rows
    by_test true = refl
    by_test false = refl

pub before-row : (r : Row) (rows : List Row) (ws : List Window) (qs : List (List ℕ)) → length qs ≡ length ws
    → before qs (queues_from ws (r ∷ rows)) ≡ before (with_row r ws qs) (queues_from ws rows)
before-row r rows [] [] h = refl
before-row r rows [] (q ∷ qs) h = absurd (omega arith)
before-row r rows (w ∷ ws) [] h = refl
before-row r rows (w ∷ ws) (q ∷ qs) h =
    ap (λ l. (q ++ l) ∷ before qs (queues_from ws (r ∷ rows))) (words_named-cons w.name r rows)
    ∙ (ap (λ l. l ∷ before qs (queues_from ws (r ∷ rows))) (sym (append_assoc q (words_named w.name (r ∷ [])) (words_named w.name rows)))
    ∙ ap (λ l. ((q ++ words_named w.name (r ∷ [])) ++ words_named w.name rows) ∷ l) (before-row r rows ws qs (omega arith)))

pub before-empty : (rows : List Row) (ws : List Window) → before (all_empty ws) (queues_from ws rows) ≡ queues_from ws rows
before-empty rows [] = refl
before-empty rows (w ∷ ws) = ap (λ l. words_named w.name rows ∷ l) (before-empty rows ws)

pub before-none : (ws : List Window) (qs : List (List ℕ)) → length qs ≡ length ws → before qs (queues_from ws []) ≡ qs
before-none [] [] h = refl
before-none [] (q ∷ qs) h = absurd (omega arith)
before-none (w ∷ ws) [] h = refl
before-none (w ∷ ws) (q ∷ qs) h =
    ap (λ l. l ∷ before qs (queues_from ws [])) (append-nil q) ∙ ap (λ l. q ∷ l) (before-none ws qs (omega arith))

pub length-with_row : (r : Row) (ws : List Window) (qs : List (List ℕ)) → length qs ≡ length ws → length (with_row r ws qs) ≡ length ws
length-with_row r [] qs h = h
length-with_row r (w ∷ ws) [] h = absurd (omega arith)
length-with_row r (w ∷ ws) (q ∷ qs) h = let e = length-with_row r ws qs (omega arith) in omega arith

pub with_row-blank : (ws : List Window) (qs : List (List ℕ)) → length qs ≡ length ws → with_row Blank ws qs ≡ qs
with_row-blank [] qs h = refl
with_row-blank (w ∷ ws) [] h = absurd (omega arith)
with_row-blank (w ∷ ws) (q ∷ qs) h = ap (λ l. l ∷ with_row Blank ws qs) (append-nil q) ∙ ap (λ l. q ∷ l) (with_row-blank ws qs (omega arith))

pub ruleset blank_rules = (with_row-blank)

pub ruleset put_rules = (so_far-named, so_far-other, so_far-all)

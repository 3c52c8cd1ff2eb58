-- Prefixes of what is printed, behind what was printed before.
use Rattle.std.proofs.Common.{◌≡◌, ℕ, List, [], ◌++◌, length, take, drop, Result, Ok, Err, OnErr, refl, ap, sym, ◌∙◌, append_assoc, append-nil}
use Rattle.std.proofs.lemmas.List.{take_at, take-append-drop}
use Rattle.base_outside.specs.Contents.{AddsPrefix}

-- the second of three parts, cut behind its first n bytes
cut_at : (a b c : List ℕ) (n : ℕ) → a ++ (b ++ c) ≡ (a ++ take n b) ++ (drop n b ++ c)
cut_at a b c n =
    ap (λ x. a ++ (x ++ c)) (sym (take-append-drop n b))
    ∙ ap (λ x. a ++ x) (append_assoc (take n b) (drop n b) c)
    ∙ sym (append_assoc a (take n b) (drop n b ++ c))

-- a prefix of the second of three parts, behind the first, is a prefix of all
pub prefix_part : (old mid new a b c whole : List ℕ) → mid ≡ old ++ a → AddsPrefix mid new b → whole ≡ a ++ (b ++ c) → AddsPrefix old new whole
prefix_part old mid new a b c whole e p w =
    let n = p.0 in
    let front = a ++ take n b in
    let same : whole ≡ front ++ (drop n b ++ c) = w ∙ cut_at a b c n in
    let taken : take (length front) whole ≡ front = ap (take (length front)) same ∙ take_at front (drop n b ++ c) (length front) refl in
    let here : new ≡ old ++ front = p.1 ∙ ap (λ x. x ++ take n b) e ∙ append_assoc old a (take n b) in
    (length front, here ∙ ap (λ x. old ++ x) (sym taken))

-- a prefix of the front is one of the whole
pub prefix_longer : (old new b c : List ℕ) → AddsPrefix old new b → AddsPrefix old new (b ++ c)
prefix_longer old new b c p = prefix_part old old new [] b c (b ++ c) (sym (append-nil old)) p refl

-- the front itself, behind what was there before
pub prefix_front : (old new a c whole : List ℕ) → new ≡ old ++ a → whole ≡ a ++ c → AddsPrefix old new whole
prefix_front old new a c whole e w = prefix_part old new new a [] c whole e (0, sym (append-nil new)) w

-- what holds anyway holds of an error
pub on_err : {T E : Type 0} (r : Result T E) (P : Type 0) → P → OnErr r P
on_err (Ok x) P p = tt
on_err (Err e) P p = p

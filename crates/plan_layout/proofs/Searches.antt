-- The first item that passes a test.
use Rattle.std.proofs.Common.{◌≡◌, ℕ, zero, suc, ◌<◌, Bool, true, false, cond, List, [], ◌∷◌, length, get_or, map, Some, None, nat_lt, refl, sym, ap, subst, ◌∙◌, lt-ltb, le-ltb, ltb-true, arith}
use Rattle.std.specs.List.{position, position_or_len}
use Rattle.std.specs.Prelude.{find}
use Rattle.std.proofs.lemmas.List.{get_or-map, length-map}
use Rattle.std.proofs.lemmas.List.Sums.{position_or_len_is, passes_at_first}

-- it is the one at i
pub position_here : {X : Type 0} (p : X → Bool) (xs : List X) (i : ℕ) (d : X) → i < length xs → ((k : ℕ) → k < i → p (get_or xs k d) ≡ false) → p (get_or xs i d) ≡ true → Some i ≡ position p xs
position_here p xs i d l past here =
    let at = position_or_len_is p xs i d (omega arith) past (λ _. here) in
    sym (ap (λ n. cond (nat_lt n (length xs)) (Some n) None) at ∙ ap (λ b. cond b (Some i) None) (lt-ltb i (length xs) l))

-- there is none
pub position_none : {X : Type 0} (p : X → Bool) (xs : List X) (d : X) → ((k : ℕ) → k < length xs → p (get_or xs k d) ≡ false) → None ≡ position p xs
position_none p xs d past =
    let at = position_or_len_is p xs (length xs) d (omega arith) past (λ l. absurd (omega arith)) in
    sym (ap (λ n. cond (nat_lt n (length xs)) (Some n) None) at ∙ ap (λ b. cond b (Some (length xs)) None) (le-ltb (length xs) (length xs) (omega arith)))

-- the same of what is made of each item
pub position_mapped_here : {X Y : Type 0} (f : X → Y) (p : Y → Bool) (xs : List X) (i : ℕ) (d : X) → i < length xs → ((k : ℕ) → k < i → p (f (get_or xs k d)) ≡ false) → p (f (get_or xs i d)) ≡ true → Some i ≡ position p (map f xs)
position_mapped_here f p xs i d l past here =
    let size = length-map xs f in
    position_here p (map f xs) i (f d) (omega arith) (λ k h. ap p (get_or-map f xs k d (f d) (omega arith)) ∙ past k h) (ap p (get_or-map f xs i d (f d) l) ∙ here)

pub position_mapped_none : {X Y : Type 0} (f : X → Y) (p : Y → Bool) (xs : List X) (d : X) → ((k : ℕ) → k < length xs → p (f (get_or xs k d)) ≡ false) → None ≡ position p (map f xs)
position_mapped_none f p xs d past =
    let size = length-map xs f in
    position_none p (map f xs) (f d) (λ k h. let l : k < length xs = omega arith in ap p (get_or-map f xs k d (f d) l) ∙ past k l)

-- the item itself
pub find_here : {X Y : Type 0} (f : X → Y) (p : Y → Bool) (xs : List X) (i : ℕ) (d : X) → i < length xs → ((k : ℕ) → k < i → p (f (get_or xs k d)) ≡ false) → p (f (get_or xs i d)) ≡ true → find p (map f xs) ≡ Some (f (get_or xs i d))
find_here f p [] i d l past here = absurd (omega arith)
find_here f p (x ∷ xs) zero d l past here = ap (λ b. cond b (Some (f x)) (find p (map f xs))) here
find_here f p (x ∷ xs) (suc i) d l past here =
    ap (λ b. cond b (Some (f x)) (find p (map f xs))) (past 0 (omega arith)) ∙ find_here f p xs i d (omega arith) (λ k h. past (suc k) (omega arith)) here

pub find_none : {X Y : Type 0} (f : X → Y) (p : Y → Bool) (xs : List X) (d : X) → ((k : ℕ) → k < length xs → p (f (get_or xs k d)) ≡ false) → find p (map f xs) ≡ None
find_none f p [] d past = refl
find_none f p (x ∷ xs) d past =
    ap (λ b. cond b (Some (f x)) (find p (map f xs))) (past 0 (omega arith)) ∙ find_none f p xs d (λ k h. past (suc k) (omega arith))

-- what is found is there and passes
pub position_is : {X : Type 0} (p : X → Bool) (xs : List X) (k : ℕ) (d : X) → Some k ≡ position p xs → (k < length xs) × (p (get_or xs k d) ≡ true)
position_is {X} p xs k d e = by (nat_lt (position_or_len p xs) (length xs)) refl e
  where
    by : (b : Bool) → nat_lt (position_or_len p xs) (length xs) ≡ b → Some k ≡ cond b (Some (position_or_len p xs)) None → (k < length xs) × (p (get_or xs k d) ≡ true)
    by true t h =
        let l = ltb-true (position_or_len p xs) (length xs) t in
        let same : position_or_len p xs ≡ k = cc in
        subst (λ n. (n < length xs) × (p (get_or xs n d) ≡ true)) same (l, passes_at_first p xs d l)
    by false t h = cc

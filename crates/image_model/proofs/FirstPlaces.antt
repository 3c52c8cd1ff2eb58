-- The place of the first item of a list that passes a test, item by item.
use Rattle.std.proofs.Common.{◌≡◌, ℕ, ◌+◌, ◌<◌, ◌≤◌, Bool, true, false, not, List, cond, length, drop, get_or, position, Some, None, nat_lt, ap, ◌∙◌}
use Rattle.std.specs.List.{position_or_len}
use Rattle.std.proofs.lemmas.List.{drop_more, drop_all}
use Rattle.std.proofs.lemmas.Bool.{lt-ltb, le-ltb}

-- the first of the items from a place on passes
pub first_passes : {X : Type 0} (p : X → Bool) (xs : List X) (k : ℕ) (d : X) → k < length xs → p (get_or xs k d) ≡ true → position_or_len p (drop k xs) ≡ 0
first_passes p xs k d l t = ap (position_or_len p) (drop_more xs k d l) ∙ ap (λ b. cond (not b) (1 + position_or_len p (drop (k + 1) xs)) 0) t

pub is_position : {X : Type 0} (p : X → Bool) (xs : List X) (k : ℕ) → position_or_len p xs ≡ k → k < length xs → position p xs ≡ Some k
is_position p xs k e l =
    ap (λ n. cond (nat_lt n (length xs)) (Some n) None) e ∙ ap (λ b. cond b (Some k) None) (lt-ltb k (length xs) l)

pub no_position : {X : Type 0} (p : X → Bool) (xs : List X) (k : ℕ) → position_or_len p xs ≡ k → length xs ≤ k → position p xs ≡ None
no_position p xs k e l =
    ap (λ n. cond (nat_lt n (length xs)) (Some n) None) e ∙ ap (λ b. cond b (Some k) None) (le-ltb k (length xs) l)

-- one place further
pub position_next : {X : Type 0} (p : X → Bool) (xs : List X) (k : ℕ) (d : X) → k < length xs → p (get_or xs k d) ≡ false → position_or_len p (drop k xs) ≡ 1 + position_or_len p (drop (k + 1) xs)
position_next p xs k d l t = ap (position_or_len p) (drop_more xs k d l) ∙ ap (λ b. cond (not b) (1 + position_or_len p (drop (k + 1) xs)) 0) t

pub none_left : {X : Type 0} (p : X → Bool) (xs : List X) (k : ℕ) → length xs ≤ k → position_or_len p (drop k xs) ≡ 0
none_left p xs k l = ap (position_or_len p) (drop_all k xs l)

-- The numbers of names.
use Rattle.std.proofs.Common.{◌≡◌, ℕ, zero, suc, ◌<◌, Bool, true, false, List, [], ◌∷◌, length, arith, if◌then◌else◌, bytes_eq}
use Rattle.base_names.specs.Numbers.{has, number_of}

number_by : (b : Bool) (ms : List (List ℕ)) (n : List ℕ) → (if b then true else has ms n) ≡ true → (has ms n ≡ true → number_of ms n < length ms) → (if b then zero else suc (number_of ms n)) < suc (length ms)
number_by true ms n h ih = omega arith
number_by false ms n h ih = let i = ih h in omega arith

-- a name that is there has one of their numbers
pub number_below : (ms : List (List ℕ)) (n : List ℕ) → has ms n ≡ true → number_of ms n < length ms
number_below [] n h = cc
number_below (m ∷ ms) n h = number_by (bytes_eq m n) ms n h (number_below ms n)

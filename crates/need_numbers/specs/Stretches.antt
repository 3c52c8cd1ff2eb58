-- Beyond the program's claim: only laws, proofs and functions inside the tool cite this file.
-- How lists of numbers are kept: in stretches, of which each begins with runs, and with a bit for each number of a long list.
use Rattle.std.specs.Prelude.{◌≡◌, ℕ, zero, suc, ◌/◌, ◌%◌, ◌<◌, ◌≤◌, ◌⊎◌, Bool, true, false, List, [], ◌∷◌, ◌++◌, length, get_or, nat_eq}
use Rattle.std.specs.Int.{bit_at}
use Rattle.need_numbers.specs.Rows.{has}

abbrev pub after : Bool → ℕ → ℕ
after true n = suc n
after false n = n

-- numbers that rise by one, or are all the same
abbrev pub run : (first : ℕ) (rising : Bool) (count : ℕ) → List ℕ
run n r zero = []
run n r (suc k) = n ∷ run (after r n) r k

abbrev pub joined : List (List ℕ) → List ℕ
joined [] = []
joined (x ∷ xs) = x ++ joined xs

-- all but the last have 256 numbers, and the last has no more
pub record AreCut (stretches : List (List ℕ)) : Type 0 where
  pub full : (k : ℕ) → suc k < length stretches → length (get_or stretches k []) ≡ 256
  pub short : (k : ℕ) → length (get_or stretches k []) ≤ 256

-- the bit of a number, in words of 64
abbrev pub bit_in : List ℕ → ℕ → Bool
bit_in words k = nat_eq (bit_at (get_or words (k / 64) 0) (k % 64)) 1

-- the bits are those of the numbers of a list
pub record AreBitsOf (numbers words : List ℕ) : Type 0 where
  pub each : (k : ℕ) → bit_in words k ≡ has k numbers

-- there are no bits, or they are those of the list
abbrev pub AreMarked : (numbers words : List ℕ) → Type 0
AreMarked numbers words = (words ≡ []) ⊎ AreBitsOf numbers words

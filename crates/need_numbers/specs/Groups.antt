-- Beyond the program's claim: only laws, proofs and functions inside the tool cite this file.
-- Items in groups, numbered through: those of the first group first. A list of groups is the list of how many items they have.
use Rattle.std.specs.Prelude.{◌≡◌, ℕ, ◌+◌, ◌^◌, ◌<◌, List, take, length, get_or, Option, Some, None, nat_lt, if◌then◌else◌}
use Rattle.std.specs.List.{sum}

-- how many items stand before a group
abbrev pub start_of : List ℕ → ℕ → ℕ
start_of counts g = sum (take g counts)

-- the number of an item by its place in its group
abbrev pub place_of : List ℕ → (group item : ℕ) → Option ℕ
place_of counts g i = if nat_lt i (get_or counts g 0) then Some (start_of counts g + i) else None

-- where groups begin, and how many items there are in all of them
pub record AreNumbered (counts starts : List ℕ) (total : ℕ) : Type 0 where
  pub count : length starts ≡ length counts
  pub each : (g : ℕ) → g < length counts → get_or starts g 0 ≡ start_of counts g
  pub total_is : total ≡ sum counts
  pub fits : sum counts < 2 ^ 32

-- The test whether an address lies in a range.
use Rattle.std.proofs.Common.{◌≡◌, ◌<◌, ◌≤◌, ◌⊎◌, ℕ, ◌+◌, true, false, arith}
use Rattle.std.proofs.lemmas.Bool.Decides.{nat_tests}
use Rattle.machine_bus.specs.Locations.{inside}

-- what the test of a range tells
pub inside_true : (b s a : ℕ) → inside b s a ≡ true → (b ≤ a) × (a < b + s)
inside_true b s a h = (grind (arith, nat_tests), grind (arith, nat_tests))

pub inside_yes : (b s a : ℕ) → b ≤ a → a < b + s → inside b s a ≡ true
inside_yes b s a h k = grind (arith, nat_tests)

pub inside_no : (b s a : ℕ) → (a < b) ⊎ (b + s ≤ a) → inside b s a ≡ false
inside_no b s a h = grind (arith, nat_tests)

pub outside_behind : (base size a : ℕ) → base + size ≤ a → inside base size a ≡ false
outside_behind base size a h = grind (arith, nat_tests)

-- Locals that are lent while their function is live: which they are, and their numbers.
use Rattle.std.specs.Prelude.{ℕ, ◌&&◌, Bool, List, [], length, map, Option, position, count_by, nat_eq, nat_lt, if◌then◌else◌}
use Rattle.ir_model.specs.Resolved.{Program, func_at}
use Rattle.plan_model.specs.declared.needs.Needs.{Needs}
use Rattle.plan_model.specs.declared.groups.Groups.{Groups}
use Rattle.plan_model.specs.Lists.{numbers_below}

-- the lendable locals, numbered in their order; where there is one compartment alone, nothing is lent
abbrev pub lent : Needs → Groups → List (ℕ × ℕ)
lent n g = if nat_lt 1 g.count then n.lendable else []

-- whether a local is this one of this function
abbrev pub is_local : (func local : ℕ) → ℕ × ℕ → Bool
is_local f l x = nat_eq x.0 f && nat_eq x.1 l

-- the number of a lent local, if it is one
unfoldable pub lend_number : Needs → Groups → (func local : ℕ) → Option ℕ
lend_number n g f l = position (is_local f l) (lent n g)

-- for each local of a function, its number if it is lent
abbrev pub lend_numbers_in : Program → Needs → Groups → (func : ℕ) → List (Option ℕ)
lend_numbers_in p n g f = map (lend_number n g f) (numbers_below (length (func_at p f).locals))

-- how many locals of a function are lent
abbrev pub lend_count : Needs → Groups → (func : ℕ) → ℕ
lend_count n g f = count_by (λ (x : ℕ × ℕ). nat_eq x.0 f) (lent n g)

-- Beyond the program's claim: only laws, proofs and functions inside the tool cite this file.
-- Pairs that may be joined, with what their join costs.
use Rattle.std.specs.Prelude.{ℕ, List, map, Option, Some, None, if◌then◌else◌, nat_lt}
use Rattle.std.specs.List.{fold}
use Rattle.plan_model.specs.Choices.{Pair}
use Rattle.plan_graph.specs.declared.choices.Choice.{Choice}

abbrev pub pair_of : Choice → Pair
pair_of c = record { first = c.first; second = c.second }

-- a pair with its price
abbrev pub priced : (price : Pair → ℕ) → Pair → Choice
priced price q = record { first = q.first; second = q.second; cost = price q }

-- the one of less cost, and the earlier where both cost as much
abbrev pub cheaper : Option Choice → Choice → Option Choice
cheaper None c = Some c
cheaper (Some b) c = Some (if nat_lt c.cost b.cost then c else b)

-- the cheapest of these and of one that was found before
abbrev pub cheapest_from : Option Choice → List Choice → Option Choice
cheapest_from best cs = fold cheaper best cs

-- a number with each of others
abbrev pub pairs_with : (first : ℕ) → List ℕ → List Pair
pairs_with n ms = map (λ (m : ℕ). let q : Pair = record { first = n; second = m } in q) ms

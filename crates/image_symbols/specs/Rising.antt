-- Things in rising order of where they lie.
use Rattle.std.specs.Prelude.{ℕ, List, length, map, get_or, nat_lt}
use Rattle.plan_model.specs.Lists.{numbers_below, in_order}
use Rattle.image_symbols.specs.declared.rising.Lying.{Lying}

-- things with their numbers, by their addresses
abbrev pub lying : (addresses : List ℕ) → List Lying
lying as_ = map (λ k. record { number = k; address = get_or as_ k 0 }) (numbers_below (length as_))

-- the lowest address first; of two at one address the lower number
abbrev pub rising : (addresses : List ℕ) → List Lying
rising as_ = in_order (λ (a b : Lying). nat_lt a.address b.address) (lying as_)

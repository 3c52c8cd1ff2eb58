-- Ranges of addresses that hold windows of peripherals, and the join of two.
use Rattle.std.specs.Prelude.{ℕ, ◌+◌, ◌-◌, ◌*◌, ◌/◌, ◌^◌, Bool, not, ◌&&◌, List, ◌∷◌, map, filter, get_or, find, min, max, unwrap_or, nat_eq, nat_le}
use Rattle.std.specs.List.{range_with_len}
use Rattle.plan_model.specs.declared.graph.Cover.{Cover}
use Rattle.plan_model.specs.InitialGraph.{by_base}

-- ---- powers of two

-- from 32, the least size of a region of the protection unit, to 2 ^ 32
abbrev pub powers_of_two : List ℕ
powers_of_two = map (λ k. 2 ^ k) (range_with_len 5 28)

-- the least of them that passes a test
unfoldable pub least_power : (ℕ → Bool) → ℕ
least_power test = unwrap_or (find test powers_of_two) (2 ^ 32)

-- ---- covers

-- of a cover that is not there
abbrev pub no_cover : Cover
no_cover = record { base = 0; size = 0 }

-- the cover of a place
abbrev pub cover_at : List Cover → ℕ → Cover
cover_at cs k = get_or cs k no_cover

-- the first address behind a cover
abbrev pub end_of : Cover → ℕ
end_of c = c.base + c.size

-- all addresses of one are addresses of the other
abbrev pub is_inside : Cover → Cover → Bool
is_inside c d = nat_le d.base c.base && nat_le (end_of c) (end_of d)

-- ---- the join

-- the first address of two covers
abbrev pub lowest : Cover → Cover → ℕ
lowest c d = min c.base d.base

-- and their last
abbrev pub highest : Cover → Cover → ℕ
highest c d = max (end_of c) (end_of d) - 1

-- the least power of two for which both addresses lie in one aligned range
abbrev pub joined_size : Cover → Cover → ℕ
joined_size c d = least_power (λ n. nat_eq (lowest c d / n) (highest c d / n))

-- that range: the least aligned one of a power of two of bytes that holds both covers
unfoldable pub joined : Cover → Cover → Cover
joined c d = record { base = lowest c d / joined_size c d * joined_size c d; size = joined_size c d }

-- a cover in place of those that it contains
abbrev pub with_cover : List Cover → Cover → List Cover
with_cover cs d = by_base (d ∷ filter (λ (c : Cover). not (is_inside c d)) cs)

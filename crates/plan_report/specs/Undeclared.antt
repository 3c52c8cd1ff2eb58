-- The addresses in a range of peripherals that no peripheral declares. Where several peripherals were joined in one range, the compartment
-- reaches what lies between them too, and a chip may have a device there.
use Rattle.std.specs.Prelude.{◌≡◌, ℕ, ◌+◌, ◌-◌, ◌≤◌, ◌<◌, Bool, true, not, ◌&&◌, ◌||◌, List, [], ◌∷◌, map, filter, nat_eq, nat_le, nat_lt}
use Rattle.std.specs.List.{list_any, range_with_len, position_or_len}
use Rattle.ir_model.specs.Resolved.{NumberedWindow}
use Rattle.plan_model.specs.declared.graph.Cover.{Cover}
use Rattle.plan_model.specs.Covers.{end_of}

-- addresses, from the first on
pub record Range : Type 0 where
  pub base : ℕ
  pub size : ℕ

-- the address is one of the first `size` from a base on
abbrev pub is_among : (base size address : ℕ) → Bool
is_among b n a = nat_le b a && nat_lt a (b + n)

-- ---- the ranges, by the windows of all declared peripherals

module _ (windows : List NumberedWindow) where
  -- a declared peripheral has the address
  abbrev pub is_declared : (address : ℕ) → Bool
  is_declared a = list_any (λ (w : NumberedWindow). is_among w.base w.size a) windows

  -- how many of `count` addresses come before the first declared one
  abbrev pub undeclared_from : (address count : ℕ) → ℕ
  undeclared_from a n = position_or_len is_declared (range_with_len a n)

  -- a range begins at an address that is not declared, where the cover begins or the address before it is declared
  abbrev pub begins : Cover → (address : ℕ) → Bool
  begins d a = not (is_declared a) && (nat_eq a d.base || is_declared (a - 1))

  -- and it is as long as it goes, up to the end of the cover
  abbrev pub range_at : Cover → (address : ℕ) → Range
  range_at d a = record { base = a; size = undeclared_from a (end_of d - a) }

  -- the ranges of a cover, rising
  unfoldable pub undeclared_ranges : Cover → List Range
  undeclared_ranges d = map (range_at d) (filter (begins d) (range_with_len d.base d.size))

-- ---- what they are

-- one of the ranges has the address
abbrev pub has_address : List Range → (address : ℕ) → Bool
has_address rs a = list_any (λ (r : Range). is_among r.base r.size a) rs

-- each of them has an address, and between two of them there is one
abbrev pub RiseFrom : (least : ℕ) → List Range → Type 0
RiseFrom n [] = Unit {0}
RiseFrom n (r ∷ rs) = (n ≤ r.base) × (0 < r.size) × RiseFrom (r.base + r.size + 1) rs

-- an address of the cover lies in one of them, or a declared peripheral has it, and not both; they have no other address; and they rise, each as
-- long as it goes
pub record AreUndeclared (windows : List NumberedWindow) (d : Cover) (rs : List Range) : Type 0 where
  pub exact : (a : ℕ) → d.base ≤ a → a < end_of d → has_address rs a ≡ not (is_declared windows a)
  pub inside : (a : ℕ) → has_address rs a ≡ true → (d.base ≤ a) × (a < end_of d)
  pub rising : RiseFrom d.base rs

-- of every cover, whatever is declared
abbrev pub UndeclaredRangesAreExact : Type 0
UndeclaredRangesAreExact = (windows : List NumberedWindow) (d : Cover) → AreUndeclared windows d (undeclared_ranges windows d)

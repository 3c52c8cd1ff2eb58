-- The table of what a board denies to every compartment: how many ranges there are, then each of them for its kind, then for its addresses.
use Rattle.std.specs.Prelude.{ℕ, ℤ, pos, negsuc, List, [], ◌∷◌, length, Bool, ◌&&◌, Option, Some, None, Result, Ok, Err, option_and_then, if◌then◌else◌, nat_lt, nat_le}
use Rattle.base_names.specs.Names.{is_name}
use Rattle.base_ranges.specs.Ranges.{is_inside, peripherals_base, peripherals_size}
use Rattle.plan_model.specs.declared.denied_ranges.TheConstants.{DENIED_LIMIT}
use Rattle.plan_model.specs.declared.denied_ranges.Denied.{Denied}
use Rattle.plan_model.specs.declared.plan.Spot.{Spot}
use Rattle.toml.specs.Data.{Data, Items, no_items, item, Members, no_members, member, get_member, as_table, as_integer, as_array}
use Rattle.plan_board.specs.declared.key.Key.TheVariants.{Deny}
use Rattle.plan_board.specs.declared.fault.BoardFault.{BoardFault}
use Rattle.plan_board.specs.declared.fault.BoardFault.TheVariants.{Kind, Range, DeniedKind, DeniedRange}
use Rattle.plan_board.specs.Keys.{word_of, behind}

-- ---- one range

-- two integers, and those of an array of exactly two
abbrev pub both : Option ℤ → Option ℤ → Option (ℤ × ℤ)
both None n = None
both (Some b) None = None
both (Some b) (Some n) = Some (b, n)

abbrev pub two_in : Items → Option (ℤ × ℤ)
two_in no_items = None
two_in (item b no_items) = None
two_in (item b (item n no_items)) = both (as_integer b) (as_integer n)
two_in (item b (item n (item c is))) = None

abbrev pub two_of : Data → Option (ℤ × ℤ)
two_of d = option_and_then two_in (as_array d)

-- one byte or more, in the peripherals' part of the memory map
abbrev pub is_deniable : (base size : ℕ) → Bool
is_deniable b n = nat_le 1 n && is_inside b n peripherals_base peripherals_size

abbrev pub spot_of : (base size : ℤ) → Option Spot
spot_of (pos b) (pos n) = if is_deniable b n then Some (record { base = b; size = n }) else None
spot_of (pos b) (negsuc n) = None
spot_of (negsuc b) n = None

-- the range of a name, by what is at its key
abbrev pub range_at : (name : List ℕ) → Option Spot → Result Denied BoardFault
range_at w None = Err (DeniedRange (behind Deny w))
range_at w (Some s) = Ok (record { name = w; base = s.base; size = s.size })

abbrev pub range_by : (name : List ℕ) → Option (ℤ × ℤ) → Result Denied BoardFault
range_by w None = Err (DeniedKind (behind Deny w))
range_by w (Some x) = range_at w (spot_of x.0 x.1)

abbrev pub range_of : (name : List ℕ) → Data → Result Denied BoardFault
range_of w d = range_by w (two_of d)

-- ---- all of them

-- the keys that are names, with what is at them
abbrev pub named : Members → List (List ℕ × Data)
named no_members = []
named (member w d ms) = if is_name w then (w, d) ∷ named ms else named ms

-- the first fault, or both
abbrev pub with_range : Result Denied BoardFault → Result (List Denied) BoardFault → Result (List Denied) BoardFault
with_range (Err e) rs = Err e
with_range (Ok d) (Err e) = Err e
with_range (Ok d) (Ok ds) = Ok (d ∷ ds)

abbrev pub ranges_of : List (List ℕ × Data) → Result (List Denied) BoardFault
ranges_of [] = Ok []
ranges_of (x ∷ xs) = with_range (range_of x.0 x.1) (ranges_of xs)

-- of a table, and of what is at its key, if it is there
abbrev pub ranges_in : Members → Result (List Denied) BoardFault
ranges_in ms = if nat_lt DENIED_LIMIT (length (named ms)) then Err (Range Deny) else ranges_of (named ms)

abbrev pub table_ranges : Option Members → Result (List Denied) BoardFault
table_ranges None = Err (Kind Deny)
table_ranges (Some ms) = ranges_in ms

abbrev pub ranges_by : Option Data → Result (List Denied) BoardFault
ranges_by None = Ok []
ranges_by (Some d) = table_ranges (as_table d)

-- of a document
unfoldable pub denied_of : Members → Result (List Denied) BoardFault
denied_of ms = ranges_by (get_member (word_of Deny) ms)

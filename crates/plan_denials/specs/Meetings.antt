-- The first range of addresses that a firmware asks for and its board denies.
use Rattle.std.specs.Prelude.{◌≡◌, ℕ, List, [], ◌∷◌, length, map, get_or, Option, None, option_map}
use Rattle.ir_model.specs.Resolved.{Program, window_at}
use Rattle.plan_model.specs.declared.graph.Cover.{Cover}
use Rattle.plan_model.specs.declared.graph.Final.{Final}
use Rattle.plan_model.specs.Choices.{first_some}
use Rattle.plan_model.specs.Lists.{numbers_below}
use Rattle.plan_model.specs.declared.denied_ranges.Denied.{Denied}
use Rattle.plan_model.specs.Denied.{first_met}
use Rattle.plan_denials.specs.declared.Asked.{Asked}
use Rattle.plan_denials.specs.declared.Asked.TheVariants.{Window, Range}
use Rattle.plan_denials.specs.declared.Meeting.{Meeting}

-- what is asked for, with the number of the denied range that it meets, if it meets one
abbrev pub meeting_of : Asked → Option ℕ → Option Meeting
meeting_of a o = option_map (λ (k : ℕ). record { asked = a; denied = k }) o

-- the window of a peripheral
abbrev pub window_meeting : List Denied → Program → (periph : ℕ) → Option Meeting
window_meeting ds p q = meeting_of (Window q) (first_met ds (window_at p q).base (window_at p q).size)

-- the first declared one, used or not
unfoldable pub windows_meeting : List Denied → Program → Option Meeting
windows_meeting ds p = first_some (map (window_meeting ds p) (numbers_below (length p.periphs)))

-- a range of a compartment, and the first of several
abbrev pub cover_meeting : List Denied → (compartment : ℕ) → Cover → Option Meeting
cover_meeting ds c d = meeting_of (Range c d) (first_met ds d.base d.size)

unfoldable pub covers_meeting : List Denied → (compartment : ℕ) → List Cover → Option Meeting
covers_meeting ds c cs = first_some (map (cover_meeting ds c) cs)

abbrev pub compartment_meeting : List Denied → Final → (compartment : ℕ) → Option Meeting
compartment_meeting ds f c = covers_meeting ds c (get_or f.covers c [])

-- of all compartments
unfoldable pub compartments_meeting : List Denied → Final → Option Meeting
compartments_meeting ds f = first_some (map (compartment_meeting ds f) (numbers_below f.groups.count))

-- of the firmware: peripherals come first
abbrev pub first_meeting : List Denied → Program → Final → Option Meeting
first_meeting ds p f = first_some (windows_meeting ds p ∷ compartments_meeting ds f ∷ [])

-- it asks for no address that is denied
abbrev pub KeepsOff : List Denied → Program → Final → Type 0
KeepsOff ds p f = first_meeting ds p f ≡ None

-- The printed lines of events, of the ends of runs and of counts, as bytes.
use Rattle.std.specs.Prelude.{ℕ, zero, suc, ◌/◌, ◌%◌, List, [], ◌∷◌, ◌++◌, Bool, false, Some, None, codes, slice_get, if◌then◌else◌}
use Rattle.std.specs.Fmt.{decimal, digit_glyph}
use Rattle.machine_devices.specs.declared.image.Window.{Window}
use Rattle.base_events.specs.declared.event.Event.{Event}
use Rattle.machine_model.specs.declared.state.End.{End}
use Rattle.machine_model.specs.declared.state.End.TheVariants.{Halt, InputEnd, Limit, Stop, Refused}
use Rattle.machine_model.specs.declared.state.StopReason.{StopReason}
use Rattle.machine_model.specs.declared.state.StopReason.TheVariants.{Unaligned, Bus, MemDisabled, Stacking, Unstacking, Handler, Usage, Undefined}

-- so many lower-case digits of a number, the last digit last
unfoldable pub hexadecimal : (count number : ℕ) → List ℕ
hexadecimal zero n = []
hexadecimal (suc k) n = hexadecimal k (n / 16) ++ digit_glyph false (n % 16) ∷ []

-- what closes a line
abbrev pub line_feed : List ℕ
line_feed = 10 ∷ []

-- the name of the window of this number
abbrev pub name_of : List Window → ℕ → List ℕ
name_of windows k = elim (slice_get windows k) [ Some w ↦ w.name | None ↦ [] ]

abbrev pub direction : Bool → List ℕ
direction write = if write then codes " write " else codes " read "

-- the compartment, the direction, the peripheral, the offset, the width and the value
unfoldable pub event_line : List Window → Event → List ℕ
event_line windows e =
    decimal e.compartment ++ direction e.write ++ name_of windows e.periph
    ++ codes " 0x" ++ hexadecimal 4 e.offset ++ codes " " ++ decimal e.width
    ++ codes " 0x" ++ hexadecimal 8 e.value ++ line_feed

abbrev pub reason : StopReason → List ℕ
reason Unaligned = codes "unaligned"
reason Bus = codes "bus"
reason MemDisabled = codes "mem-disabled"
reason Stacking = codes "stacking"
reason Unstacking = codes "unstacking"
reason Handler = codes "handler"
reason Usage = codes "usage"
reason Undefined = codes "undefined"

-- a refused event ends no run that is printed, and has no line
unfoldable pub end_line : End → List ℕ
end_line (Halt k) = codes "end halt " ++ decimal k ++ line_feed
end_line InputEnd = codes "end input" ++ line_feed
end_line Limit = codes "end limit" ++ line_feed
end_line (Stop r pc) = codes "end stop " ++ reason r ++ codes " 0x" ++ hexadecimal 8 pc ++ line_feed
end_line Refused = []

-- a run that ended at an access of the address that was watched
unfoldable pub watch_line : (address : ℕ) → List ℕ
watch_line a = codes "end watch 0x" ++ hexadecimal 8 a ++ line_feed

-- how many functions, globals and peripherals a firmware has
unfoldable pub count_line : (functions globals peripherals : ℕ) → List ℕ
count_line f g p =
    codes "ok functions " ++ decimal f ++ codes " globals " ++ decimal g ++ codes " peripherals " ++ decimal p ++ line_feed

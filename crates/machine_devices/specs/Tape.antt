-- Recorded device input: the text of a tape, and the words that it gives to each window.
use Rattle.std.specs.Prelude.{◌≡◌, ℕ, ◌+◌, List, [], ◌∷◌, length, map, Bool, true, false, not, ◌&&◌, ◌||◌, Option, Some, None, Result, Ok, Err, nat_eq, nat_le, if◌then◌else◌}
use Rattle.std.specs.List.{list_any, take_while}
use Rattle.std.specs.Str.{bytes_eq}
use Rattle.base_names.specs.Names.{is_word}
use Rattle.base_numerals.specs.Numerals.{numeral}
use Rattle.base_numerals.specs.declared.Numeral.{Numeral}
use Rattle.base_numerals.specs.declared.Numeral.TheVariants.{Malformed, TooWide, Value}
use Rattle.machine_devices.specs.declared.image.Window.{Window}
use Rattle.machine_devices.specs.declared.tape.TapeFault.{TapeFault}
use Rattle.machine_devices.specs.declared.tape.TapeFault.TheVariants.{NoMemory, BadLine, UnknownPeripheral}

-- a byte before the first line of a list of lines
abbrev pub before_first : ℕ → List (List ℕ) → List (List ℕ)
before_first b [] = (b ∷ []) ∷ []
before_first b (line ∷ lines) = (b ∷ line) ∷ lines

-- a carriage return directly before a line feed is a part of the line's end
abbrev pub ends_line : ℕ → List ℕ → Bool
ends_line b [] = false
ends_line b (c ∷ bs) = nat_eq b 13 && nat_eq c 10

-- the lines of a text without their ends, LF or CR LF; what follows the last end is a line too
unfoldable pub lines_of : List ℕ → List (List ℕ)
lines_of [] = [] ∷ []
lines_of (b ∷ bs) =
    if nat_eq b 10 then [] ∷ lines_of bs else if ends_line b bs then lines_of bs else before_first b (lines_of bs)

abbrev pub is_blank : ℕ → Bool
is_blank b = nat_eq b 32 || nat_eq b 9

-- what stands before a comment
abbrev pub without_comment : List ℕ → List ℕ
without_comment line = take_while (λ b. not (nat_eq b 35)) line

-- a byte before the fields of what follows it, which begins with a blank or not
abbrev pub joined : (apart : Bool) → ℕ → List (List ℕ) → List (List ℕ)
joined true b fields = (b ∷ []) ∷ fields
joined false b [] = (b ∷ []) ∷ []
joined false b (field ∷ fields) = (b ∷ field) ∷ fields

abbrev pub begins_apart : List ℕ → Bool
begins_apart [] = true
begins_apart (b ∷ bs) = is_blank b

-- the runs of bytes between blanks
unfoldable pub fields_of : List ℕ → List (List ℕ)
fields_of [] = []
fields_of (b ∷ bs) = if is_blank b then fields_of bs else joined (begins_apart bs) b (fields_of bs)

-- what a line says
pub data Row : Type 0 where
  Blank : Row
  Entry : (name : List ℕ) → (value : ℕ) → Row
  Bad : Row

abbrev pub word_limit : ℕ
word_limit = 64

abbrev pub entry : List ℕ → Numeral → Row
entry name Malformed = Bad
entry name TooWide = Bad
entry name (Value n) = if is_word name && nat_le (length name) word_limit then Entry name n else Bad

-- nothing, or a name and a number
abbrev pub row_of_fields : List (List ℕ) → Row
row_of_fields [] = Blank
row_of_fields (f ∷ []) = Bad
row_of_fields (f ∷ g ∷ []) = entry f (numeral g)
row_of_fields (f ∷ g ∷ h ∷ more) = Bad

-- no carriage return stands within a line
unfoldable pub row_of : List ℕ → Row
row_of line = if list_any (λ b. nat_eq b 13) line then Bad else row_of_fields (fields_of (without_comment line))

abbrev pub rows_of : List ℕ → List Row
rows_of text = map row_of (lines_of text)

abbrev pub is_named : List ℕ → Window → Bool
is_named name w = bytes_eq w.name name

-- the fault of a row, in the line of this number
abbrev pub row_fault : Row → (line : ℕ) → List Window → Option TapeFault
row_fault Blank n windows = None
row_fault (Entry name v) n windows = if list_any (is_named name) windows then None else Some (UnknownPeripheral n)
row_fault Bad n windows = Some (BadLine n)

abbrev pub or_later : Option TapeFault → Option TapeFault → Option TapeFault
or_later (Some e) later = Some e
or_later None later = later

-- the fault of the first line that has one; lines count from 1
abbrev pub fault_from : (line : ℕ) → List Row → List Window → Option TapeFault
fault_from n [] windows = None
fault_from n (r ∷ rs) windows = or_later (row_fault r n windows) (fault_from (n + 1) rs windows)

-- the words of a window, in order of the lines
abbrev pub words_named : List ℕ → List Row → List ℕ
words_named name [] = []
words_named name (Blank ∷ rs) = words_named name rs
words_named name (Entry other v ∷ rs) = if bytes_eq other name then v ∷ words_named name rs else words_named name rs
words_named name (Bad ∷ rs) = words_named name rs

unfoldable pub first_fault : List ℕ → List Window → Option TapeFault
first_fault text windows = fault_from 1 (rows_of text) windows

unfoldable pub queues_of : List ℕ → List Window → List (List ℕ)
queues_of text windows = map (λ w. words_named w.name (rows_of text)) windows

-- what reading a tape answers: the words of each window, or the first line that fails
abbrev pub Reads : List ℕ → List Window → Result (List (List ℕ)) TapeFault → Type 0
Reads text windows (Ok queues) = (first_fault text windows ≡ None) × (queues ≡ queues_of text windows)
Reads text windows (Err NoMemory) = Unit {0}
Reads text windows (Err e) = first_fault text windows ≡ Some e

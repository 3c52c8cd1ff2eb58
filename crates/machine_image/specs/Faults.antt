-- The checks of an image file, in the order in which they are made: field by field, first that the field is there whole
-- and then that it keeps its rule. A rule of a base that needs the size behind it is checked once that size is there and keeps its own rule.
use Rattle.std.specs.Prelude.{◌≡◌, ℕ, zero, suc, ◌+◌, ◌%◌, ◌^◌, ◌<◌, List, [], ◌∷◌, ◌++◌, length, Bool, not, ◌&&◌, ◌||◌, Option, Some, None, Result, Ok, Err, nat_eq, nat_le, if◌then◌else◌, slice_range, slice_index, ◌⊎◌}
use Rattle.std.specs.List.{list_any, list_all}
use Rattle.std.specs.Str.{bytes_eq}
use Rattle.base_names.specs.declared.TheConstants.{NAME_LIMIT}
use Rattle.base_names.specs.Names.{is_name}
use Rattle.base_ranges.specs.Ranges as ranges
use Rattle.base_ranges.specs.Ranges.{is_power_between, is_inside, are_apart, is_window_place}
use Rattle.machine_devices.specs.declared.image.Image.{Image}
use Rattle.machine_devices.specs.declared.image.Window.{Window}
use Rattle.machine_devices.specs.Rules.{window_limit, block_size, least_stack, greatest_stack, memory_limit, last_flash_base, least_flash, first_ram_base, last_ram_base, least_ram, ram_unit}
use Rattle.machine_image.specs.declared.fault.ImageFault.{ImageFault}
use Rattle.machine_image.specs.declared.fault.ImageFault.TheVariants.{NoMemory, Short, Magic, Version, Field, Trailing}
use Rattle.machine_image.specs.Text.{magic, IsText}
use Rattle.machine_image.specs.Parts.{number, window_at, behind_window, tells_protection, windows_place, flash_place}

-- what each check finds, in order
abbrev pub Checks : Type 0
Checks = List (Option ImageFault)

unfoldable pub first_of : Checks → Option ImageFault
first_of [] = None
first_of (None ∷ cs) = first_of cs
first_of (Some e ∷ cs) = Some e

-- a field of so many bytes is there whole
unfoldable pub whole : (bytes : List ℕ) → (at width : ℕ) → Option ImageFault
whole bytes at n = if nat_le (at + n) (length bytes) then None else Some (Short at)

-- a field keeps its rule
unfoldable pub rule : (keeps : Bool) → (at : ℕ) → Option ImageFault
rule keeps at = if keeps then None else Some (Field at)

-- the rules of the fields, as tests

unfoldable pub is_flash_base : ℕ → Bool
is_flash_base n = nat_eq (n % memory_limit) 0 && nat_le n last_flash_base

unfoldable pub is_flash_length : ℕ → Bool
is_flash_length n = nat_le least_flash n && (nat_le n memory_limit && nat_eq (n % 4) 0)

unfoldable pub is_ram_base : ℕ → Bool
is_ram_base n = nat_eq (n % memory_limit) 0 && (nat_le first_ram_base n && nat_le n last_ram_base)

unfoldable pub is_ram_size : ℕ → Bool
is_ram_size n = nat_eq (n % ram_unit) 0 && (nat_le least_ram n && nat_le n memory_limit)

unfoldable pub is_monitor : (n ram_base ram_size : ℕ) → Bool
is_monitor n b s = nat_eq n 0 || (nat_eq (n % block_size) 0 && is_inside n block_size b s)

unfoldable pub is_stack_size : ℕ → Bool
is_stack_size n = nat_eq n 0 || is_power_between least_stack greatest_stack n

unfoldable pub is_stack_base : (n size ram_base ram_size : ℕ) → Bool
is_stack_base n s b r = if nat_eq s 0 then nat_eq n 0 else (nat_eq (n % s) 0 && is_inside n s b r)

unfoldable pub is_regions : ℕ → Bool
is_regions n = nat_eq n 8 || nat_eq n 16

-- 1 is for closed, and 0 for open, which 8 regions leave to version 1
unfoldable pub is_closed_word : (n regions : ℕ) → Bool
is_closed_word n r = nat_eq n 1 || (nat_eq n 0 && nat_eq r 16)

unfoldable pub is_window_size : ℕ → Bool
is_window_size n = ranges.is_window_size n

unfoldable pub is_window_base : (n size : ℕ) → List Window → Bool
is_window_base n s seen = is_window_place n s && list_all (λ w. are_apart w.base w.size n s) seen

unfoldable pub is_name_length : ℕ → Bool
is_name_length n = nat_le 1 n && nat_le n NAME_LIMIT

unfoldable pub is_new_name : List ℕ → List Window → Bool
is_new_name name seen = is_name name && not (list_any (λ w. bytes_eq w.name name) seen)

-- the checks of the fields of fixed length

unfoldable pub magic_check : List ℕ → Option ImageFault
magic_check b = if bytes_eq (slice_range b 0 4) magic then None else Some Magic

unfoldable pub version_check : List ℕ → Option ImageFault
version_check b = if nat_eq (number b 4) 1 || nat_eq (number b 4) 2 then None else Some (Version (number b 4))

unfoldable pub start_checks : List ℕ → Checks
start_checks b = whole b 0 4 ∷ magic_check b ∷ whole b 4 4 ∷ version_check b ∷ []

unfoldable pub memory_checks : List ℕ → Checks
memory_checks b =
    whole b 8 4 ∷ rule (is_flash_base (number b 8)) 8
    ∷ whole b 12 4 ∷ rule (is_flash_length (number b 12)) 12
    ∷ whole b 16 4 ∷ rule (is_ram_base (number b 16)) 16
    ∷ whole b 20 4 ∷ rule (is_ram_size (number b 20)) 20
    ∷ []

unfoldable pub place_checks : List ℕ → Checks
place_checks b =
    whole b 24 4 ∷ rule (is_monitor (number b 24) (number b 16) (number b 20)) 24
    ∷ whole b 28 4 ∷ whole b 32 4 ∷ rule (is_stack_size (number b 32)) 32
    ∷ rule (is_stack_base (number b 28) (number b 32) (number b 16) (number b 20)) 28
    ∷ []

unfoldable pub count_checks : List ℕ → Checks
count_checks b = whole b 36 4 ∷ rule (nat_le (number b 36) window_limit) 36 ∷ []

-- the checks of the fields that version 2 alone has
unfoldable pub protection_checks : List ℕ → Checks
protection_checks b =
    if tells_protection b
    then whole b 40 4 ∷ rule (is_regions (number b 40)) 40
    ∷ whole b 44 4 ∷ rule (is_closed_word (number b 44) (number b 40)) 44
    ∷ []
    else []

-- the checks of a window's range behind other windows, and of its name
unfoldable pub range_checks : List ℕ → (at : ℕ) → (seen : List Window) → Checks
range_checks b at seen =
    whole b at 4 ∷ whole b (at + 4) 4 ∷ rule (is_window_size (number b (at + 4))) (at + 4)
    ∷ rule (is_window_base (number b at) (number b (at + 4)) seen) at
    ∷ []

unfoldable pub name_checks : List ℕ → (at : ℕ) → (seen : List Window) → Checks
name_checks b at seen =
    whole b (at + 8) 4 ∷ rule (is_name_length (number b (at + 8))) (at + 8)
    ∷ whole b (at + 12) (number b (at + 8)) ∷ rule (is_new_name (window_at b at).name seen) (at + 12)
    ∷ []

unfoldable pub window_checks : List ℕ → (at : ℕ) → (seen : List Window) → Checks
window_checks b at seen = range_checks b at seen ++ name_checks b at seen

-- the checks of so many windows behind others
unfoldable pub windows_checks : List ℕ → (at : ℕ) → (seen : List Window) → (count : ℕ) → Checks
windows_checks b at seen zero = []
windows_checks b at seen (suc k) =
    window_checks b at seen ++ windows_checks b (behind_window b at) (seen ++ window_at b at ∷ []) k

unfoldable pub end_check : List ℕ → (at : ℕ) → Option ImageFault
end_check b at = if nat_eq (length b) at then None else Some (Trailing at)

-- the checks of the flash bytes, which end the file
unfoldable pub flash_checks : List ℕ → (at : ℕ) → Checks
flash_checks b at = whole b at (number b 12) ∷ end_check b (at + number b 12) ∷ []

-- the first fault in order of the bytes, if there is one
unfoldable pub first_fault : List ℕ → Option ImageFault
first_fault b =
    first_of (start_checks b ++ (memory_checks b ++ (place_checks b ++ (count_checks b ++ (protection_checks b
    ++ (windows_checks b (windows_place b) [] (number b 36) ++ flash_checks b (flash_place b)))))))

-- the error is the first fault of the checks, or want of memory
abbrev pub IsFirst : Checks → ImageFault → Type 0
IsFirst cs e = (e ≡ NoMemory) ⊎ (first_of cs ≡ Some e)

-- what reading answers: the image whose text the bytes are, or the first fault
abbrev pub Reads : List ℕ → Result Image ImageFault → Type 0
Reads b (Ok i) = IsText i b
Reads b (Err NoMemory) = Unit {0}
Reads b (Err e) = first_fault b ≡ Some e

-- bytes without a fault are the text of an image, and a text has no fault
abbrev pub FaultlessAreTexts : Type 0
FaultlessAreTexts = (b : List ℕ) → ((k : ℕ) → slice_index b k < 2 ^ 8) → first_fault b ≡ None → (i : Image) × IsText i b

abbrev pub TextsAreFaultless : Type 0
TextsAreFaultless = (i : Image) (b : List ℕ) → IsText i b → first_fault b ≡ None

-- a text is read as its image, or memory runs out
abbrev pub TextsAreRead : Type 0
TextsAreRead = (i : Image) (b : List ℕ) (r : Result Image ImageFault) → IsText i b → Reads b r → (r ≡ Ok i) ⊎ (r ≡ Err NoMemory)

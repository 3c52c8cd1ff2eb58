-- The check of regions: which words a compartment's regions may have.
use Rattle.std.specs.Prelude.{ℕ, zero, suc, ◌+◌, ◌-◌, ◌*◌, ◌/◌, ◌%◌, ◌^◌, Bool, true, ◌&&◌, ◌||◌, List, [], ◌∷◌, length, nat_eq, nat_lt, nat_le}
use Rattle.std.specs.Int.{bit_at}
use Rattle.machine_protection.specs.declared.region.Region.{Region}
use Rattle.machine_protection.specs.declared.words.Rights.{Rights}
use Rattle.machine_protection.specs.declared.words.Rights.TheVariants.{Background, Code, Ram, Device}
use Rattle.machine_protection.specs.Regions.{size_log, is_of_legal_size}
use Rattle.machine_protection.specs.RegionWords.{rights_word}
use Rattle.base_ranges.specs.Ranges.{is_inside, are_apart, peripherals_base, peripherals_size}
use Rattle.machine_devices.specs.declared.image.Image.{Image}
use Rattle.machine_devices.specs.Rules.{block_size}
use Rattle.monitor_model.specs.declared.tables.CompRecord.{CompRecord}
use Rattle.monitor_model.specs.declared.tables.Tables.{Tables}

-- ---- ranges of addresses

-- in RAM, apart from the stack and from the monitor's block
abbrev pub is_data_range : Image → Tables → (base size : ℕ) → Bool
is_data_range i t b n =
    is_inside b n i.ram_base i.ram_size && (are_apart b n t.stack.base t.stack.size && are_apart b n t.monitor block_size)

-- ---- what the words of a region tell

-- RBAR.ADDR
abbrev pub base_of : Region → ℕ
base_of g = g.rbar / 2 ^ 5 * 2 ^ 5

abbrev pub size_of : Region → ℕ
size_of g = 2 ^ size_log g

-- RASR.SRD
abbrev pub taken_out : Region → ℕ
taken_out g = g.rasr / 2 ^ 8 % 2 ^ 8

-- the words of `region`, for a block of at least 32 bytes at a multiple of its size
abbrev pub has_form : (number srd : ℕ) → Rights → Region → Bool
has_form n srd rights g =
    is_of_legal_size g
    && (nat_eq (base_of g % size_of g) 0
    && (nat_eq g.rbar (base_of g + 2 ^ 4 + n)
    && nat_eq g.rasr (rights_word rights + srd * 2 ^ 8 + (size_log g - 1) * 2)))

-- each of the first n eighths is taken out, or holds data alone
abbrev pub eighths_hold_data : Image → Tables → Region → (count : ℕ) → Bool
eighths_hold_data i t g zero = true
eighths_hold_data i t g (suc n) =
    (nat_eq (bit_at (taken_out g) n) 1 || is_data_range i t (base_of g + n * (size_of g / 8)) (size_of g / 8))
    && eighths_hold_data i t g n

-- what the region holds is data alone; below 256 bytes it has no eighths
abbrev pub holds_data : Image → Tables → Region → Bool
holds_data i t g = (nat_lt (size_log g) 8 && is_data_range i t (base_of g) (size_of g)) || (nat_le 8 (size_log g) && eighths_hold_data i t g 8)

-- ---- the forms of a compartment's regions

abbrev pub is_code : Image → Region → Bool
is_code i g = has_form 2 0 Code g && is_inside (base_of g) (size_of g) i.flash_base (length i.flash)

abbrev pub is_free : (number : ℕ) → Region → Bool
is_free n g = nat_eq g.rbar (2 ^ 4 + n) && nat_eq g.rasr 0

abbrev pub is_data : Image → Tables → (number : ℕ) → Region → Bool
is_data i t n g = has_form n (taken_out g) Ram g && holds_data i t g

-- in closed images alone
abbrev pub is_read_only : Image → Tables → (number : ℕ) → Region → Bool
is_read_only i t n g = i.closed && (has_form n (taken_out g) Background g && holds_data i t g)

-- in the peripherals' part of the memory map
abbrev pub is_cover : (number : ℕ) → Region → Bool
is_cover n g = has_form n 0 Device g && is_inside (base_of g) (size_of g) peripherals_base peripherals_size

abbrev pub is_slot : Image → Tables → (number : ℕ) → Region → Bool
is_slot i t n g = is_free n g || (is_data i t n g || (is_read_only i t n g || is_cover n g))

abbrev pub are_slots : Image → Tables → (number : ℕ) → List Region → Bool
are_slots i t n [] = true
are_slots i t n (g ∷ gs) = is_slot i t n g && are_slots i t (suc n) gs

-- a mask has no bit that is no lendable local's
abbrev pub is_mask : Tables → (mask : ℕ) → Bool
is_mask t m = nat_lt m (2 ^ length t.lends)

-- the slots are numbered from 4 on
abbrev pub is_compartment : Image → Tables → CompRecord → Bool
is_compartment i t c = is_code i c.code && (are_slots i t 4 c.slots && (is_mask t c.mask && is_mask t c.reads))

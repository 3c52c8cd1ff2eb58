-- The lines of a compartment's slots of the protection unit.
use Rattle.std.specs.Prelude.{ℕ, ◌+◌, ◌/◌, ◌^◌, List, [], ◌++◌, Bool, not, ◌&&◌, map, filter, flat_map, codes, get_or, length, if◌then◌else◌, nat_eq, nat_le}
use Rattle.std.specs.Fmt.{decimal}
use Rattle.machine_lines.specs.Lines.{hexadecimal, line_feed}
use Rattle.plan_report.specs.Names.{spaced, range_text}
use Rattle.base_ranges.specs.Ranges.{is_inside}
use Rattle.machine_devices.specs.declared.image.Window.{Window}
use Rattle.machine_protection.specs.declared.region.Region.{Region}
use Rattle.machine_protection.specs.declared.words.Rights.{Rights}
use Rattle.machine_protection.specs.declared.words.Rights.TheVariants.{Background, Ram}
use Rattle.machine_protection.specs.Registers.{blank}
use Rattle.machine_protection.specs.Regions.{size_log}
use Rattle.machine_protection.specs.RegionWords.{rights_word}
use Rattle.plan_model.specs.Lists.{numbers_below}
use Rattle.monitor_model.specs.RegionChecks.{base_of, size_of, taken_out}

-- what may be done in a region: MPU_RASR above SRD and SIZE
abbrev pub has_rights : Rights → Region → Bool
has_rights rights g = nat_eq (g.rasr / 2 ^ 16) (rights_word rights / 2 ^ 16)

-- data that the compartment may write and read, data that it may read alone, or peripherals
abbrev pub slot_word : Region → List ℕ
slot_word g = if has_rights Ram g then codes " data" else if has_rights Background g then codes " read" else codes " periph"

-- the eighths of the range that are taken out, where there are any: bit i for the i-th from below
abbrev pub less_text : Region → List ℕ
less_text g = if nat_le 8 (size_log g) && not (nat_eq (taken_out g) 0) then codes " less 0x" ++ hexadecimal 2 (taken_out g) else []

-- whether the window of a peripheral lies in the range
abbrev pub lies_in : Region → Window → Bool
lies_in g w = is_inside w.base w.size (base_of g) (size_of g)

abbrev pub window_name : Window → List ℕ
window_name w = w.name

-- the names of all windows in the range, in the order of the image
abbrev pub names_in : List Window → Region → List (List ℕ)
names_in ws g = map window_name (filter (lies_in g) ws)

-- a slot that is not free
unfoldable pub used_line : List Window → (number : ℕ) → Region → List ℕ
used_line ws k g =
    codes "slot " ++ decimal k ++ slot_word g ++ range_text (base_of g) (size_of g) ++ less_text g ++ spaced (names_in ws g) ++ line_feed

-- a free one has no line
abbrev pub slot_line : List Window → (number : ℕ) → Region → List ℕ
slot_line ws k g = if nat_eq g.rasr 0 then [] else used_line ws k g

-- slots are numbered from 4 on
unfoldable pub slot_lines : List Window → List Region → List ℕ
slot_lines ws gs = flat_map (λ k. slot_line ws (4 + k) (get_or gs k blank)) (numbers_below (length gs))

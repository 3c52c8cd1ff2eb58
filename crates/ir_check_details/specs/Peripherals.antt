-- The lines of a peripheral whose window is none, or lies over an earlier one.
use Rattle.std.specs.Prelude.{ℕ, List, [], ◌∷◌, ◌++◌, codes, Option, Some, None, bytes_eq, if◌then◌else◌}
use Rattle.std.specs.Fmt.{decimal}
use Rattle.machine_lines.specs.Lines.{hexadecimal, line_feed}
use Rattle.base_ranges.specs.Ranges.{is_window_size, are_apart}
use Rattle.ir_model.specs.declared.firmware.Peripheral.{Peripheral}
use Rattle.ir_check_details.specs.Words.{expected}

-- a size that no window has
abbrev pub size_lines : (size : ℕ) → List ℕ
size_lines n = codes "found size " ++ decimal n ++ line_feed ++ expected (codes "a power of two from 32 to 65536")

-- a base at which no window of this size begins
abbrev pub base_lines : (base size : ℕ) → List ℕ
base_lines b n =
    codes "found base 0x" ++ hexadecimal 8 b ++ line_feed ++ codes "expected a multiple of " ++ decimal n ++ codes " from 0x40000000 to 0x5fffffff" ++ line_feed

abbrev pub window_lines : Option Peripheral → List ℕ
window_lines None = []
window_lines (Some q) = if is_window_size q.size then base_lines q.base q.size else size_lines q.size

-- the first that stands before the peripheral of this name, and is not apart from this window
abbrev pub overlapped : List Peripheral → (name : List ℕ) → (base size : ℕ) → Option Peripheral
overlapped [] n b m = None
overlapped (e ∷ es) n b m =
    if bytes_eq e.name n then None else if are_apart e.base e.size b m then overlapped es n b m else Some e

-- what the window has in common with an earlier one
abbrev pub shared_lines : Option Peripheral → List ℕ
shared_lines None = []
shared_lines (Some e) =
    codes "found " ++ e.name ++ codes " 0x" ++ hexadecimal 8 e.base ++ codes " " ++ decimal e.size ++ line_feed ++ expected (codes "no bytes of another peripheral")

abbrev pub overlap_lines : List Peripheral → (name : List ℕ) → Option Peripheral → List ℕ
overlap_lines qs n None = []
overlap_lines qs n (Some q) = shared_lines (overlapped qs n q.base q.size)

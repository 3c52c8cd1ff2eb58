-- What was found and what was expected, of a firmware whose check fails, by the check and its place. Where the definitions know no more
-- than the check itself tells, there is no line.
use Rattle.std.specs.Prelude.{ℕ, List, [], ◌++◌, codes}
use Rattle.ir_model.specs.declared.check.CheckKind.{CheckKind}
use Rattle.ir_model.specs.declared.check.CheckKind.TheVariants.{Unknown, Twice, IllTyped, NoMain, BadWindow, WindowOverlap, BadInit, ObjectTooLarge, FrameTooLarge}
use Rattle.ir_model.specs.declared.check.CheckPlace.{CheckPlace}
use Rattle.ir_model.specs.declared.check.CheckPlace.TheVariants as place
use Rattle.ir_model.specs.Plain.{PlainFirmware}
use Rattle.ir_model.specs.Typing.{Failing}
use Rattle.ir_check_details.specs.Words.{found, found_bytes, expected}
use Rattle.ir_check_details.specs.Found.{func_in, periph_named}
use Rattle.ir_check_details.specs.Functions.{place_lines, func_lines, main_lines}
use Rattle.ir_check_details.specs.Peripherals.{window_lines, overlap_lines}
use Rattle.ir_check_details.specs.FirstValues.{global_named, global_lines}

-- types that do not fit
abbrev pub type_lines : PlainFirmware → CheckPlace → List ℕ
type_lines w (place.Inst f l k) = place_lines w l k (func_in w.files f)
type_lines w (place.Func f) = func_lines (func_in w.files f)
type_lines w _ = []

abbrev pub bad_window_lines : PlainFirmware → CheckPlace → List ℕ
bad_window_lines w (place.Periph q) = window_lines (periph_named w.periphs q)
bad_window_lines w _ = []

abbrev pub overlap_at : PlainFirmware → CheckPlace → List ℕ
overlap_at w (place.Periph q) = overlap_lines w.periphs q (periph_named w.periphs q)
overlap_at w _ = []

abbrev pub bad_init_lines : PlainFirmware → CheckPlace → List ℕ
bad_init_lines w (place.Global x) = global_lines w (global_named w.globals x)
bad_init_lines w _ = []

abbrev pub frame_lines : (bytes : ℕ) → List ℕ
frame_lines n = found_bytes n ++ expected (codes "at most 992 bytes")

abbrev pub kind_lines : PlainFirmware → CheckKind → CheckPlace → List ℕ
kind_lines w (Unknown n) p = found n
kind_lines w (Twice n) p = found n
kind_lines w IllTyped p = type_lines w p
kind_lines w NoMain p = main_lines w
kind_lines w BadWindow p = bad_window_lines w p
kind_lines w WindowOverlap p = overlap_at w p
kind_lines w BadInit p = bad_init_lines w p
kind_lines w ObjectTooLarge p = expected (codes "at most 65536 bytes")
kind_lines w (FrameTooLarge n) p = frame_lines n

abbrev pub check_lines : PlainFirmware → Failing → List ℕ
check_lines w e = kind_lines w e.kind e.place

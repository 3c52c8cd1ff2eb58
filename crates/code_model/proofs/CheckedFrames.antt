-- The frame of a function that is checked.
use Rattle.std.proofs.Common.{◌≤◌}
use Rattle.std.specs.List.{Contains}
use Rattle.std.proofs.lemmas.Bool.{leb-true}
use Rattle.ir_model.specs.Plain.{PlainFunc, PlainFirmware, funcs_of}
use Rattle.ir_model.specs.Layout.{known}
use Rattle.ir_model.specs.Frames.{frame_size}
use Rattle.ir_model.specs.Typing.{IsTyped}
use Rattle.ir_model.proofs.Typed.{func_passes}

pub frame_fits : (w : PlainFirmware) (f : PlainFunc) → IsTyped w → Contains (funcs_of w) f → frame_size (known w.structs) f ≤ 992
frame_fits w f h c = leb-true (frame_size (known w.structs) f) 992 (func_passes w f h c).frame

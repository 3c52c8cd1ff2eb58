-- Whether what stopped the reading of a file is a fault of its content.
use Rattle.std.specs.Prelude.{Bool, true, false}
use Rattle.machine_image.specs.declared.fault.ImageFault.TheVariants as image
use Rattle.machine_devices.specs.declared.tape.TapeFault.TheVariants as tape
use Rattle.ir_reader.specs.declared.fault.TextFault.TheVariants as text
use Rattle.ir_check_scopes.specs.declared.fault.CheckFault.TheVariants as check
use Rattle.plan_board.specs.declared.fault.BoardFault.TheVariants as board
use Rattle.aces_reports.specs.declared.failure.Fault.{Fault}
use Rattle.aces_reports.specs.declared.failure.Fault.TheVariants.{Image, Tape, Text, Check, Board}

-- memory ran out, which says nothing of a content
abbrev pub is_want_of_memory : Fault → Bool
is_want_of_memory (Image image.NoMemory) = true
is_want_of_memory (Tape tape.NoMemory) = true
is_want_of_memory (Text text.NoMemory) = true
is_want_of_memory (Check check.NoMemory) = true
is_want_of_memory (Board board.NoMemory) = true
is_want_of_memory f = false

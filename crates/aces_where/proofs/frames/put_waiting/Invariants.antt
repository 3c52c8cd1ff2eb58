use Rattle.std.proofs.Common.{◌≡◌, ◌++◌, flat_map, take}
use Rattle.ir_model.specs.Plain.{firmware_of}
use Rattle.ir_program.specs.Seen.{program_of}
use Rattle.aces_where.specs.PlaceLines.{waits_line}
use Rattle.aces_where.proofs.frames.put_waiting.Given as goal

abbrev pub invariant-loop-i : goal.invariant-loop-i
invariant-loop-i l = l.text ≡ l.initial.text ++ flat_map (waits_line (firmware_of l.firmware) (program_of l.program)) (take l.i l.waiting)

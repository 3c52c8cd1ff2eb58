use Rattle.std.proofs.Common.{◌≡◌, ◌++◌, flat_map, filter, take}
use Rattle.ir_model.specs.Plain.{firmware_of}
use Rattle.ir_program.specs.Seen.{program_of}
use Rattle.aces_why.specs.Lines.{object_text, is_target}
use Rattle.aces_why.proofs.calls.put_targets.Given as goal

abbrev pub invariant-loop-i : goal.invariant-loop-i
invariant-loop-i l = l.text ≡ l.initial.text ++ flat_map (object_text (firmware_of l.subject.firmware.now)) (filter (is_target (program_of l.subject.program.now) l.func l.register) (take l.i l.objects))

use Rattle.std.proofs.Common.{◌≡◌, ◌++◌, flat_map, take}
use Rattle.ir_model.specs.Plain.{firmware_of}
use Rattle.aces_why.specs.Lines.{object_text}
use Rattle.aces_why.proofs.places.put_objects.Given as goal

abbrev pub invariant-loop-i : goal.invariant-loop-i
invariant-loop-i l = l.text ≡ l.initial.text ++ flat_map (object_text (firmware_of l.firmware)) (take l.i l.objects)

use Rattle.std.proofs.Common.{◌≡◌, ◌++◌, flat_map, map, get_or}
use Rattle.ir_model.specs.Plain.{firmware_of}
use Rattle.ir_model.specs.Resolved.{Number}
use Rattle.ir_program.specs.Values.{value_of}
use Rattle.plan_model.specs.Lists.{numbers_below}
use Rattle.aces_where.specs.PlaceLines.{register_line}
use Rattle.aces_where.proofs.frames.put_registers.Given as goal

abbrev pub invariant-loop-register : goal.invariant-loop-register
invariant-loop-register l =
    l.text ≡ l.initial.text
    ++ flat_map (λ r. register_line (firmware_of l.firmware) l.func r (get_or (map value_of l.registers) r (Number 0))) (numbers_below l.register)

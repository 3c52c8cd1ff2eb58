use Rattle.std.proofs.Common.{◌≡◌, [], map, take, drop}
use Rattle.ir_model.specs.declared.firmware.Peripheral.{Peripheral}
use Rattle.ir_model.specs.Typing.{first_failing, periph_checks}
use Rattle.ir_check_declarations.proofs.periphs.periphs.Given as goal

abbrev pub invariant-loop-i : goal.invariant-loop-i
invariant-loop-i l = record {
  left : first_failing (periph_checks [] l.periphs) ≡ first_failing (periph_checks (take l.i l.periphs) (drop l.i l.periphs));
  names : l.seen ≡ map (λ (q : Peripheral). q.name) (take l.i l.periphs);
}

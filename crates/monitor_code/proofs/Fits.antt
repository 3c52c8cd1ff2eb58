-- All lists fit what an assembler takes: by the number of slots and the kind of board, no other number counts.
use Rattle.std.proofs.Common.{◌≡◌, ◌≤◌, true, ◌&&◌, refl, arith}
use Rattle.monitor_program.specs.Constants.{Constants, most_slots}
use Rattle.monitor_program.specs.Svc.{svc}
use Rattle.monitor_program.specs.MemFault.{memfault}
use Rattle.monitor_program.specs.Reset.{reset}
use Rattle.monitor_code.specs.Whole.{fits}
use Rattle.monitor_program.proofs.Lengths.{of_kind, of_kinds}

pub lists_fit : (c : Constants) → c.slots ≤ most_slots → (fits (reset c) && (fits (svc c) && fits (memfault c))) ≡ true
lists_fit c h =
    of_kinds 13 (λ n b. (fits (reset (of_kind c n b)) && (fits (svc (of_kind c n b)) && fits (memfault (of_kind c n b)))) ≡ true)
    (refl, refl, (refl, refl, (refl, refl, (refl, refl, (refl, refl, (refl, refl, (refl, refl, (refl, refl, (refl, refl, (refl, refl, (refl, refl, (refl, refl, (refl, refl, tt))))))))))))) c.slots c.closed (omega (arith, h))

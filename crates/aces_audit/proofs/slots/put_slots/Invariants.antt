use Rattle.std.proofs.Common.{◌≡◌, ◌+◌, ◌++◌, flat_map, get_or}
use Rattle.machine_protection.specs.Registers.{blank}
use Rattle.plan_model.specs.Lists.{numbers_below}
use Rattle.aces_audit.specs.SlotLines.{slot_line}
use Rattle.aces_audit.proofs.slots.put_slots.Given as goal

abbrev pub invariant-loop-i : goal.invariant-loop-i
invariant-loop-i l = l.text ≡ l.initial.text ++ flat_map (λ k. slot_line l.windows (4 + k) (get_or l.slots k blank)) (numbers_below l.i)

use Rattle.std.proofs.Common.{◌↔◌, ℕ, take}
use Rattle.std.specs.Prelude.{Contains}
use Rattle.ir_model.specs.Resolved.{Program}
use Rattle.ir_laws.specs.Sets.{ObjectSets}
use Rattle.need_lists.specs.AnyOf.{AnyOf}
use Rattle.needs.specs.Accesses.{Calls, HasTargets}
use Rattle.needs.proofs.calls.callees.Given as goal

abbrev pub invariant-loop-i : goal.invariant-loop-i
invariant-loop-i l = (p : Program) (S : ObjectSets) (f g : ℕ) → HasTargets p S f l.targets → Contains l.callees.items g ↔ AnyOf (Calls p S f g) (take l.i l.uses)

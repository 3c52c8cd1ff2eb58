use Rattle.std.proofs.Common.{◌↔◌, take}
use Rattle.std.specs.Prelude.{Contains}
use Rattle.need_lists.specs.AnyOf.{AnyOf}
use Rattle.refine_stack.specs.declared.calls.Call.{Call}
use Rattle.refine_stack.specs.Listed.{IsCallAt}
use Rattle.refine_stack.proofs.calls.calls_of.Given as goal

abbrev pub invariant-loop-i : goal.invariant-loop-i
invariant-loop-i l = (x : Call) → Contains l.calls.items x ↔ AnyOf (λ s. IsCallAt l.groups s x) (take l.i l.sites)

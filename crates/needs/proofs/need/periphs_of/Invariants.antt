use Rattle.std.proofs.Common.{◌≡◌, ◌↔◌, ℕ, take}
use Rattle.std.specs.Prelude.{Contains}
use Rattle.ir_model.specs.declared.object.ObjId.TheVariants as id
use Rattle.need_lists.specs.AnyOf.{AnyOf}
use Rattle.needs.proofs.need.periphs_of.Given as goal

abbrev pub invariant-loop-i : goal.invariant-loop-i
invariant-loop-i l = (q : ℕ) → Contains l.periphs.items q ↔ AnyOf (λ o. o ≡ id.Periph q) (take l.i l.objects)

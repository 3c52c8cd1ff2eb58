use Rattle.std.proofs.Common.{◌↔◌, take}
use Rattle.std.specs.Prelude.{Contains}
use Rattle.ir_model.specs.declared.object.ObjId.{ObjId}
use Rattle.ir_model.specs.Objects.{object_by}
use Rattle.need_sets.specs.Sets.{sets_of}
use Rattle.need_lists.specs.AnyOf.{AnyOf}
use Rattle.needs.specs.Accesses.{Reaches}
use Rattle.needs.proofs.objects.all_objects.Given as goal

abbrev pub invariant-loop-i : goal.invariant-loop-i
invariant-loop-i l = (o : ObjId) → Contains l.objects.items o ↔ AnyOf (Reaches (sets_of l.pts) l.func l.access (object_by o)) (take l.i l.uses)

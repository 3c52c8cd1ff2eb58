use Rattle.std.proofs.Common.{◌≡◌}
use Rattle.ir_model.specs.declared.object.ObjId.{ObjId}
use Rattle.ir_model.specs.declared.object.ObjId.TheVariants.{Global, Periph, Local, Func}
use Rattle.ir_model.specs.Objects.{object_by}

pub same_id : (x y : ObjId) → object_by x ≡ object_by y → x ≡ y
same_id (Global a) (Global b) e = cc
same_id (Periph a) (Periph b) e = cc
same_id (Local f a) (Local g b) e = cc
same_id (Func a) (Func b) e = cc
same_id _ _ e = cc

-- Objects of a program by the numbers that code gives them, and their order.
use Rattle.std.specs.Prelude.{ℕ}
use Rattle.std.specs.declared.cmp.Ordering.{Ordering}
use Rattle.std.specs.Ordering.{nat_cmp, on, then_cmp}
use Rattle.ir_model.specs.declared.object.ObjId.{ObjId}
use Rattle.ir_model.specs.declared.object.ObjId.TheVariants.{Global, Periph, Local, Func}
use Rattle.ir_model.specs.State.{Object, GlobalObject, PeriphObject, LocalObject, FunctionObject}

abbrev pub object_by : ObjId → Object
object_by (Global g) = GlobalObject g
object_by (Periph p) = PeriphObject p
object_by (Local f l) = LocalObject f l
object_by (Func f) = FunctionObject f

-- the place of an object's kind
abbrev pub kind_of : ObjId → ℕ
kind_of (Global g) = 0
kind_of (Periph p) = 1
kind_of (Local f l) = 2
kind_of (Func f) = 3

-- its number among those of its kind: for a local first its function's, and then its own
abbrev pub number_of : ObjId → ℕ
number_of (Global g) = g
number_of (Periph p) = p
number_of (Local f l) = f
number_of (Func f) = f

abbrev pub local_of : ObjId → ℕ
local_of (Local f l) = l
local_of _ = 0

-- by kind, and then by number
abbrev pub compare_objects : ObjId → ObjId → Ordering
compare_objects = then_cmp (on kind_of nat_cmp) (then_cmp (on number_of nat_cmp) (on local_of nat_cmp))

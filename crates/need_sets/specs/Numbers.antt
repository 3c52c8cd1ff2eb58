-- Beyond the program's claim: only laws, proofs and functions inside the tool cite this file.
-- The numbers of objects and of nodes.
use Rattle.std.specs.Prelude.{◌≡◌, ℕ, ◌+◌, ◌<◌, List, [], ◌∷◌, ◌++◌, map, length, get_or, Option, Some, None, nat_lt, if◌then◌else◌}
use Rattle.std.specs.List.{sum}
use Rattle.ir_model.specs.declared.object.ObjId.{ObjId}
use Rattle.ir_model.specs.Objects.{object_by}
use Rattle.ir_model.specs.Resolved.{Program, NumberedFunc}
use Rattle.ir_model.specs.State.{Object, GlobalObject, PeriphObject, LocalObject, FunctionObject}
use Rattle.ir_laws.specs.Sets.{Node, Register, Content, Outcome}
use Rattle.need_numbers.specs.Groups.{place_of}

-- how many functions there are, how many objects in each of their groups (globals, peripherals, the locals of each function, functions), and how
-- many nodes in each of theirs (the registers of each function, the contents of the objects, the results of the functions)
pub record GroupCounts : Type 0 where
  pub funcs : ℕ
  pub objects : List ℕ
  pub nodes : List ℕ

-- globals, peripherals, the locals of each function, functions
abbrev pub object_number : GroupCounts → Object → Option ℕ
object_number c (GlobalObject g) = place_of c.objects 0 g
object_number c (PeriphObject q) = place_of c.objects 1 q
object_number c (LocalObject f l) = if nat_lt f c.funcs then place_of c.objects (2 + f) l else None
object_number c (FunctionObject f) = place_of c.objects (2 + c.funcs) f

abbrev pub content_number : GroupCounts → Option ℕ → Option ℕ
content_number c None = None
content_number c (Some o) = place_of c.nodes c.funcs o

-- the registers of each function, the contents of the objects, the results of the functions
abbrev pub node_number : GroupCounts → Node → Option ℕ
node_number c (Register f r) = if nat_lt f c.funcs then place_of c.nodes f r else None
node_number c (Content o) = content_number c (object_number c o)
node_number c (Outcome f) = place_of c.nodes (1 + c.funcs) f

-- how many globals, peripherals, locals of each function and functions a program has
abbrev pub object_groups : Program → List ℕ
object_groups p = length p.globals ∷ length p.periphs ∷ (map (λ (f : NumberedFunc). length f.locals) p.funcs ++ length p.funcs ∷ [])

-- the number of registers of each function, of objects, and of functions
abbrev pub node_groups : Program → (objects : ℕ) → List ℕ
node_groups p objects = map (λ (f : NumberedFunc). length f.regs) p.funcs ++ objects ∷ length p.funcs ∷ []

abbrev pub numbering_of : Program → GroupCounts
numbering_of p = record { funcs = length p.funcs; objects = object_groups p; nodes = node_groups p (sum (object_groups p)) }

-- each object stands at the place of its number
pub record AreByNumber (c : GroupCounts) (by_number : List ObjId) : Type 0 where
  pub each : (k : ℕ) (d : ObjId) → k < length by_number → object_number c (object_by (get_or by_number k d)) ≡ Some k

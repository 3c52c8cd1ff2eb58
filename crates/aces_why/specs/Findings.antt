-- What is found of a program: the objects that its registers may stand for, the functions that calls lead to, and the blocks that
-- are reached.
use Rattle.std.specs.Prelude.{◌≡◌, ℕ, ◌<◌, true, false, List, [], ◌∷◌, map, length, get_or}
use Rattle.ir_model.specs.declared.object.ObjId.{ObjId}
use Rattle.ir_model.specs.Objects.{object_by, compare_objects}
use Rattle.ir_model.specs.Resolved.{Program, NumberedTerm, Jump, Branch, Ret, NumberedBlock, func_at}
use Rattle.ir_laws.specs.Sets.{ObjectSets, Register}
use Rattle.plan_model.specs.declared.needs.FuncNeed.{FuncNeed}
use Rattle.plan_model.specs.Lists.{ListsExactly}
use Rattle.plan_model.specs.Needs.{AreNeeds}
use Rattle.plan_model.specs.PointsTo.{IsLeast}
use Rattle.aces_why.specs.Reached.{AreReached}
use Rattle.aces_why.specs.declared.subject.Findings.{Findings}

-- the objects that a register of a function may stand for, each once and in order
abbrev pub AreObjectsOf : ObjectSets → (func register : ℕ) → List ObjId → Type 0
AreObjectsOf S f r os = ListsExactly compare_objects (λ o. S (Register f r) (object_by o) ≡ true) os

-- those of each register of a function
pub record AreObjectsIn (p : Program) (S : ObjectSets) (f : ℕ) (rows : List (List ObjId)) : Type 0 where
  pub count : length rows ≡ length (func_at p f).regs
  pub each : (r : ℕ) → r < length (func_at p f).regs → AreObjectsOf S f r (get_or rows r [])

-- the blocks to which the end of a block may go
abbrev pub goes_to : NumberedTerm → List ℕ
goes_to (Jump b) = b ∷ []
goes_to (Branch on a b) = a ∷ b ∷ []
goes_to (Ret v) = []

abbrev pub exits_of : List NumberedBlock → List (List ℕ)
exits_of bs = map (λ (b : NumberedBlock). goes_to b.term) bs

-- the functions that each function may call
abbrev pub callees_of : List FuncNeed → List (List ℕ)
callees_of ns = map (λ (n : FuncNeed). n.callees) ns

-- what is found by sets of objects: what the functions need on an open board, the objects of all registers, the functions that calls lead to from
-- `main`, it among them, and the blocks of each function that are reached from its first, it among them
pub record AreFindings (p : Program) (S : ObjectSets) (found : Findings) : Type 0 where
  pub needs : AreNeeds p S false found.needs
  pub rows : length found.sets ≡ length p.funcs
  pub sets : (f : ℕ) → f < length p.funcs → AreObjectsIn p S f (get_or found.sets f [])
  pub called : AreReached (callees_of found.needs.funcs) p.main found.called
  pub flags : length found.entered ≡ length p.funcs
  pub entered : (f : ℕ) → f < length p.funcs → AreReached (exits_of (func_at p f).blocks) 0 (get_or found.entered f [])

-- what is found by the least sets
pub record AreFindingsOf (p : Program) (found : Findings) : Type 0 where
  pub objects : ObjectSets
  pub least : IsLeast p objects
  pub exact : AreFindings p objects found

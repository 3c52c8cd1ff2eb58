-- Beyond the program's claim: only laws, proofs and functions inside the tool cite this file.
-- What a function reaches by what its instructions use.
use Rattle.std.specs.Prelude.{◌≡◌, ℕ, ◌<◌, Bool, true, false, not, List, [], length, get_or}
use Rattle.std.specs.Ordering.{nat_cmp}
use Rattle.ir_model.specs.declared.object.ObjId.{ObjId}
use Rattle.ir_model.specs.declared.object.ObjId.TheVariants.{Global, Func}
use Rattle.ir_model.specs.Resolved.{Program, global_at, register_type}
use Rattle.ir_model.specs.State.{Object, FunctionObject}
use Rattle.ir_model.specs.Signatures.{signature}
use Rattle.ir_laws.specs.Sets.{ObjectSets, Register}
use Rattle.plan_model.specs.Lists.{ListsExactly}
use Rattle.needs.specs.declared.instructions.Use.{Use}
use Rattle.needs.specs.declared.instructions.Use.TheVariants as uses
use Rattle.needs.specs.declared.instructions.Access.{Access}
use Rattle.needs.specs.declared.instructions.Access.TheVariants.{Read, Write}

-- a use reads or writes an object
abbrev pub Reaches : ObjectSets → (func : ℕ) → Access → Object → Use → Type 0
Reaches S f Read o (uses.Load r) = S (Register f r) o ≡ true
Reaches S f Write o (uses.Store r) = S (Register f r) o ≡ true
Reaches S f a o u = ⊥

-- a function may be called through a register
abbrev pub IsTarget : Program → ObjectSets → (func register target : ℕ) → Type 0
IsTarget p S f r h = (S (Register f r) (FunctionObject h) ≡ true) × (signature p h ≡ register_type p f r)

-- a use calls a function
abbrev pub Calls : Program → ObjectSets → (func target : ℕ) → Use → Type 0
Calls p S f h (uses.Call g) = h ≡ g
Calls p S f h (uses.Indirect r) = IsTarget p S f r h
Calls p S f h u = ⊥

-- what is read or written is no function, and what is written is not constant
abbrev pub is_open : Program → Access → ObjId → Bool
is_open p a (Func f) = false
is_open p Write (Global g) = not (global_at p g).constant
is_open p a o = true

-- for each register of a function, the functions that calls through it may go to
abbrev pub HasTargets : Program → ObjectSets → (func : ℕ) → List (List ℕ) → Type 0
HasTargets p S f ts = (r : ℕ) → r < length ts → ListsExactly nat_cmp (IsTarget p S f r) (get_or ts r [])

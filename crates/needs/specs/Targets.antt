-- Beyond the program's claim: only laws, proofs and functions inside the tool cite this file.
-- The functions that calls through registers go to.
use Rattle.std.specs.Prelude.{◌≡◌, ℕ, ◌<◌, length, true}
use Rattle.ir_model.specs.declared.object.ObjId.{ObjId}
use Rattle.ir_model.specs.declared.object.ObjId.TheVariants.{Func}
use Rattle.ir_model.specs.Types.{PlainType}
use Rattle.ir_model.specs.Resolved.{Program}
use Rattle.ir_model.specs.State.{FunctionObject}
use Rattle.ir_model.specs.Signatures.{signature}
use Rattle.ir_laws.specs.Sets.{Node, ObjectSets}

-- an object is a function whose address is of a type
abbrev pub IsFunctionOf : Program → PlainType → (func : ℕ) → ObjId → Type 0
IsFunctionOf p t h (Func g) = (h ≡ g) × (signature p g ≡ t)
IsFunctionOf p t h o = ⊥

-- the functions of sets are those of the program
abbrev pub FunctionsAreThere : Program → ObjectSets → Type 0
FunctionsAreThere p S = (m : Node) (f : ℕ) → S m (FunctionObject f) ≡ true → f < length p.funcs

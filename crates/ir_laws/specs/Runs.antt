-- Beyond the program's claim: only laws, proofs and functions inside the tool cite this file.
-- Laws of runs of typed programs.
use Rattle.std.specs.Prelude.{◌≡◌, ℕ, ◌<◌, ◌≤◌, List, ◌∷◌, length, Option}
use Rattle.ir_model.specs.Types.{PlainType, U32, Pointer}
use Rattle.ir_model.specs.Plain.{PlainFirmware}
use Rattle.ir_model.specs.Resolved.{Program, Code, At, Instance, Elem, Load, Store, ICall, Ret, Does, Ends, func_at, block_at, here}
use Rattle.ir_model.specs.Resolve.{resolve}
use Rattle.ir_model.specs.State.{Frame, Memory, SourceState, object_of}
use Rattle.ir_model.specs.Step.{register, result_register, source_turn}
use Rattle.ir_model.specs.Runs.{source_after}
use Rattle.ir_model.specs.Canonical.{IsWithinLimits}
use Rattle.ir_model.specs.Typing.{object_limit, IsTyped}
use Rattle.ir_laws.specs.Typed.{sizes_of, Has, CellTyped, ICallTyped, InstTyped, Typed}
use Rattle.ir_laws.specs.Sets.{ObjectSets, Register, everything, Closed, IsRead, IsWritten, IsExpected}
use Rattle.ir_laws.specs.States.{FrameFits, FramesFit, MemoryFits, StateFits, TurnFits, IsWord, IsPointer, IsTarget, Alike, global_shapes, Agrees}

-- every state of a run fits, and every step reaches what the sets have
pub record RunsFit (w : PlainFirmware) (S : ObjectSets) : Type 0 where
  pub states : (compartments : List ℕ) (queues : List (List ℕ)) (n : ℕ) → StateFits (resolve w) (sizes_of w) S (source_after (resolve w) compartments queues n)
  pub steps : (compartments : List ℕ) (queues : List (List ℕ)) (n : ℕ)
      → IsExpected (resolve w) S (source_turn (resolve w) compartments (source_after (resolve w) compartments queues n)).did

-- whatever sets are closed
abbrev pub ValuesStayInSets : Type 0
ValuesStayInSets = (w : PlainFirmware) (S : ObjectSets) → IsTyped w → IsWithinLimits w → Closed (resolve w) S → RunsFit w S

-- types alone: the sets that have every object are closed
abbrev pub ValuesFitTypes : Type 0
ValuesFitTypes = (w : PlainFirmware) → IsTyped w → IsWithinLimits w → RunsFit w everything

-- one step, of any typed program, and the start
pub record StepsFit (p : Program) (sizes : PlainType → ℕ) (S : ObjectSets) : Type 0 where
  pub first : (queues : List (List ℕ)) (compartments : List ℕ) → StateFits p sizes S (source_after p compartments queues 0)
  pub next : (compartments : List ℕ) (s : SourceState) → StateFits p sizes S s → TurnFits p sizes S (source_turn p compartments s)

abbrev pub StepsKeepValues : Type 0
StepsKeepValues = (p : Program) (sizes : PlainType → ℕ) (S : ObjectSets) → Typed p sizes → Closed p S → StepsFit p sizes S

-- a register of numbers holds a word
abbrev pub NumbersAreWords : Type 0
NumbersAreWords =
    (p : Program) (sizes : PlainType → ℕ) (S : ObjectSets) (fr : Frame) (r : ℕ) → FrameFits p sizes S fr → Has (func_at p fr.func) r U32
    → IsWord (register fr r)

-- a register of pointers holds null or a pointer to an object of the program, with an offset below 2 ^ 32
abbrev pub PointersAreOfObjects : Type 0
PointersAreOfObjects =
    (p : Program) (sizes : PlainType → ℕ) (S : ObjectSets) (fr : Frame) (r : ℕ) (t : PlainType) (o : Instance) (k : ℕ) → FrameFits p sizes S fr
    → Has (func_at p fr.func) r (Pointer t) → register fr r ≡ At o k → IsPointer p (S (Register fr.func r)) o k

-- where the base of `elem` is not null, an element is no larger than an object
abbrev pub ElementsAreSmall : Type 0
ElementsAreSmall =
    (p : Program) (sizes : PlainType → ℕ) (S : ObjectSets) (fr : Frame) (to base index size : ℕ) (o : Instance) (k : ℕ) → FrameFits p sizes S fr
    → InstTyped p sizes (func_at p fr.func) (Elem to base index size) → register fr base ≡ At o k → size ≤ object_limit

-- locals and globals have as many values as cells
pub record ContentsAreWhole : Type 0 where
  pub locals : (p : Program) (sizes : PlainType → ℕ) (S : ObjectSets) (fr : Frame) → FrameFits p sizes S fr → Alike fr.locals (func_at p fr.func).locals
  pub globals : (p : Program) (sizes : PlainType → ℕ) (S : ObjectSets) (m : Memory) → MemoryFits p sizes S m → Alike m.globals (global_shapes p)

-- a waiting frame stands at an instruction of its block, and the return of the frame above agrees with it
pub record ReturnsAgree (p : Program) (sizes : PlainType → ℕ) : Type 0 where
  pub inside : (S : ObjectSets) (fr c : Frame) (rest : List Frame) → FramesFit p sizes S (fr ∷ c ∷ rest) → c.place < length (block_at p c.func c.block).insts
  pub agrees : (S : ObjectSets) (fr c : Frame) (rest : List Frame) (r : Option ℕ) → FramesFit p sizes S (fr ∷ c ∷ rest) → here p fr.func fr.block fr.place ≡ Ends (Ret r)
      → Agrees c r (result_register (here p c.func c.block c.place))

abbrev pub ReturnsAgreeWithCalls : Type 0
ReturnsAgreeWithCalls = (p : Program) (sizes : PlainType → ℕ) → Typed p sizes → ReturnsAgree p sizes

-- what the running frame is about to load, store or call is what the sets have
pub record AccessesAreExpected (p : Program) (sizes : PlainType → ℕ) (S : ObjectSets) : Type 0 where
  pub loads : (fr : Frame) (to from : ℕ) (t : PlainType) (o : Instance) (k : ℕ) → FrameFits p sizes S fr → CellTyped (func_at p fr.func) from to t
      → here p fr.func fr.block fr.place ≡ Does (Load to from t) → register fr from ≡ At o k → IsRead p S fr.func (object_of o)
  pub stores : (fr : Frame) (to from : ℕ) (t : PlainType) (o : Instance) (k : ℕ) → FrameFits p sizes S fr → CellTyped (func_at p fr.func) to from t
      → here p fr.func fr.block fr.place ≡ Does (Store to from t) → register fr to ≡ At o k → IsWritten p S fr.func (object_of o)
  pub calls : (fr : Frame) (to : Option ℕ) (r : ℕ) (args : List ℕ) (g : ℕ) → FrameFits p sizes S fr → ICallTyped (func_at p fr.func) to r args
      → here p fr.func fr.block fr.place ≡ Does (ICall to r args) → register fr r ≡ Code g → IsTarget p S fr g

abbrev pub AccessesAreInSets : Type 0
AccessesAreInSets = (p : Program) (sizes : PlainType → ℕ) (S : ObjectSets) → AccessesAreExpected p sizes S

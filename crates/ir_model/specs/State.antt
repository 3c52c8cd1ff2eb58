-- The state of a source run: frames, contents, and the words that each peripheral has left.
use Rattle.std.specs.Prelude.{ℕ, List, [], ◌∷◌, map, Option}
use Rattle.base_events.specs.declared.event.Event.{Event}
use Rattle.ir_model.specs.Types.{PlainType}
use Rattle.ir_model.specs.Layout.{CellPlace, Shape}
use Rattle.ir_model.specs.Resolved.{Instance, OfGlobal, OfPeriph, OfLocal, Value, NumberedGlobal, Program, func_at}
use Rattle.ir_model.specs.Resolve.{zero_of}

-- a function that runs or waits for one that it called: where it stands, its frame's number, its registers, and the
-- contents of its locals
pub record Frame : Type 0 where
  pub func : ℕ
  pub block : ℕ
  pub place : ℕ
  pub number : ℕ
  pub regs : List Value
  pub locals : List (List Value)

-- why a run ends in a fault, in the order in which faults are tested
pub data SourceFault : Type 0 where
  NullFault : SourceFault
  DeadFault : SourceFault
  NoCellFault : SourceFault
  ConstantFault : SourceFault

pub data SourceEnd : Type 0 where
  Returned : SourceEnd
  OutOfInput : SourceEnd
  Faulted : (fault : SourceFault) → SourceEnd

-- the contents of the globals, the words that each peripheral has left, and how many frames were made
pub record Memory : Type 0 where
  pub globals : List (List Value)
  pub queues : List (List ℕ)
  pub made : ℕ

-- the running frame comes first; the others stand at their calls
pub data SourceState : Type 0 where
  Running : (frames : List Frame) → (memory : Memory) → SourceState
  Ended : (how : SourceEnd) → SourceState

-- an object of the program: a local without its frame
pub data Object : Type 0 where
  GlobalObject : (global : ℕ) → Object
  PeriphObject : (periph : ℕ) → Object
  LocalObject : (func local : ℕ) → Object
  FunctionObject : (func : ℕ) → Object

abbrev pub object_of : Instance → Object
object_of (OfGlobal g) = GlobalObject g
object_of (OfPeriph p) = PeriphObject p
object_of (OfLocal f n l) = LocalObject f l

-- what a step reached
pub data StepEffect : Type 0 where
  Nothing : StepEffect
  Loaded : (func : ℕ) → (object : Object) → StepEffect
  Stored : (func : ℕ) → (object : Object) → StepEffect
  Called : (func block place callee : ℕ) → StepEffect

pub record SourceTurn : Type 0 where
  pub to : SourceState
  pub event : Option Event
  pub did : StepEffect

abbrev pub zero_cells : List CellPlace → List Value
zero_cells cs = map (λ (c : CellPlace). zero_of c.ty) cs

-- a local before it is written
abbrev pub zero_local : Shape → List Value
zero_local s = zero_cells s.cells

-- the arguments, then 0 or null
abbrev pub entered : List Value → List PlainType → List Value
entered vs [] = []
entered [] (t ∷ ts) = zero_of t ∷ entered [] ts
entered (v ∷ vs) (t ∷ ts) = v ∷ entered vs ts

abbrev pub frame_of : Program → (func number : ℕ) → List Value → Frame
frame_of p g n vs =
    record { func = g; block = 0; place = 0; number = n; regs = entered vs (func_at p g).regs; locals = map zero_local (func_at p g).locals }

-- the first state: `main` is entered
unfoldable pub start : Program → (queues : List (List ℕ)) → SourceState
start p queues =
    Running (frame_of p p.main 0 [] ∷ []) (record { globals = map (λ (o : NumberedGlobal). o.init) p.globals; queues = queues; made = 1 })

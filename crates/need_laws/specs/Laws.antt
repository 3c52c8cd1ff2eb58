-- Laws of needs by closed sets: of what the running frame is about to reach, of the compartments and the locals of waiting
-- frames, and of the least sets.
use Rattle.std.specs.Prelude.{◌≡◌, ℕ, ◌<◌, List, [], ◌∷◌, length, Bool, true, Option, Some, None, nat_lt, Contains}
use Rattle.ir_model.specs.Types.{PlainType}
use Rattle.ir_model.specs.Plain.{PlainFirmware}
use Rattle.ir_model.specs.Resolved.{Program, Code, At, Instance, Load, Store, Call, ICall, Does, func_at, here}
use Rattle.ir_model.specs.Resolve.{resolve}
use Rattle.ir_model.specs.State.{Object, GlobalObject, PeriphObject, LocalObject, FunctionObject, Frame, object_of}
use Rattle.ir_model.specs.Step.{register, frame_in}
use Rattle.ir_model.specs.Canonical.{IsWithinLimits}
use Rattle.ir_model.specs.Typing.{IsTyped}
use Rattle.ir_laws.specs.Typed.{CellTyped, ICallTyped, Typed}
use Rattle.ir_laws.specs.Sets.{Node, ObjectSets, Closed, CallsAt, IsRead, IsWritten}
use Rattle.ir_laws.specs.States.{FrameFits, FramesFit, Waits}
use Rattle.plan_model.specs.declared.needs.Needs.{Needs}
use Rattle.plan_model.specs.declared.groups.Groups.{Groups}
use Rattle.plan_model.specs.PointsTo.{IsLeast}
use Rattle.plan_model.specs.Calls.{Reaches}
use Rattle.plan_model.specs.Needs.{AreNeeds, need_of, IsWritable}
use Rattle.plan_model.specs.Groups.{compartment_of}
use Rattle.plan_model.specs.Crossing.{site_number}
use Rattle.plan_model.specs.Lending.{lend_number}
use Rattle.need_laws.specs.Reached.{IsListed, ListsPeriph, HasTarget, RunsStayInNeeds}

-- ---- runs

-- the needs of a typed firmware within the limits, by closed sets
abbrev pub NoStepLeavesNeeds : Type 0
NoStepLeavesNeeds =
    (w : PlainFirmware) (S : ObjectSets) (closed : Bool) (n : Needs) → IsTyped w → IsWithinLimits w → Closed (resolve w) S
    → AreNeeds (resolve w) S closed n → RunsStayInNeeds (resolve w) n

-- ---- the running frame

-- what it is about to load, to store and to call is listed; a store that goes on is not to a constant
pub record AccessesAreListed (p : Program) (sizes : PlainType → ℕ) (S : ObjectSets) (n : Needs) : Type 0 where
  pub loads : (fr : Frame) (to from : ℕ) (t : PlainType) (o : Instance) (k : ℕ) → FrameFits p sizes S fr → CellTyped (func_at p fr.func) from to t
      → here p fr.func fr.block fr.place ≡ Does (Load to from t) → register fr from ≡ At o k
      → IsListed (need_of n fr.func).read (object_of o) × ListsPeriph n fr.func (object_of o)
  pub stores : (fr : Frame) (to from : ℕ) (t : PlainType) (o : Instance) (k : ℕ) → FrameFits p sizes S fr → CellTyped (func_at p fr.func) to from t
      → here p fr.func fr.block fr.place ≡ Does (Store to from t) → register fr to ≡ At o k → IsWritable p (object_of o)
      → IsListed (need_of n fr.func).written (object_of o) × ListsPeriph n fr.func (object_of o)
  pub calls : (fr : Frame) (to : Option ℕ) (g : ℕ) (args : List ℕ) → here p fr.func fr.block fr.place ≡ Does (Call to g args)
      → HasTarget n fr.func fr.block fr.place g
  pub icalls : (fr : Frame) (to : Option ℕ) (r : ℕ) (args : List ℕ) (g : ℕ) → FrameFits p sizes S fr → ICallTyped (func_at p fr.func) to r args
      → here p fr.func fr.block fr.place ≡ Does (ICall to r args) → register fr r ≡ Code g → HasTarget n fr.func fr.block fr.place g

abbrev pub RunningFrameStaysInNeeds : Type 0
RunningFrameStaysInNeeds =
    (p : Program) (sizes : PlainType → ℕ) (S : ObjectSets) (closed : Bool) (n : Needs) → AreNeeds p S closed n → AccessesAreListed p sizes S n

-- ---- compartments

-- a call at a place that is no crossing site stays in the compartment of its function
abbrev pub CallsStayInside : Type 0
CallsStayInside =
    (p : Program) (S : ObjectSets) (closed : Bool) (n : Needs) (g : Groups) (f b k h : ℕ) → AreNeeds p S closed n → CallsAt p S f (here p f b k) h
    → site_number n g f b k ≡ None → compartment_of g h ≡ compartment_of g f

-- each frame stands in the compartment of the one below it, where that waits at no crossing site, and the last in that of `main`
abbrev pub AreGrouped : Program → Needs → Groups → List Frame → Type 0
AreGrouped p n g [] = Unit {0}
AreGrouped p n g (fr ∷ []) = compartment_of g fr.func ≡ compartment_of g p.main
AreGrouped p n g (fr ∷ c ∷ rest) =
    (site_number n g c.func c.block c.place ≡ None → compartment_of g fr.func ≡ compartment_of g c.func) × AreGrouped p n g (c ∷ rest)

abbrev pub FramesAreGrouped : Type 0
FramesAreGrouped =
    (p : Program) (sizes : PlainType → ℕ) (S : ObjectSets) (closed : Bool) (n : Needs) (g : Groups) (fs : List Frame) → AreNeeds p S closed n
    → FramesFit p sizes S fs → AreGrouped p n g fs

-- ---- locals

-- the function of a waiting frame reaches the function that waits for nothing
abbrev pub WaitingFramesReach : Type 0
WaitingFramesReach =
    (p : Program) (sizes : PlainType → ℕ) (S : ObjectSets) (fs : List Frame) (g f number : ℕ) (h : Frame) → Waits p sizes S g fs → FramesFit p sizes S fs
    → frame_in fs f number ≡ Some h → Reaches p S f g

-- a frame is the running one, whose function and number these are
pub record IsOwn (fr : Frame) (f n : ℕ) (found : Frame) : Type 0 where
  pub func : fr.func ≡ f
  pub number : fr.number ≡ n
  pub same : found ≡ fr

-- the frame of a function that does not reach itself is the running one, if that is of the function
abbrev pub FramesAreOwn : Type 0
FramesAreOwn =
    (p : Program) (sizes : PlainType → ℕ) (S : ObjectSets) (fr : Frame) (rest : List Frame) (number : ℕ) (h : Frame) → FramesFit p sizes S (fr ∷ rest)
    → (Reaches p S fr.func fr.func → ⊥) → frame_in (fr ∷ rest) fr.func number ≡ Some h → IsOwn fr fr.func number h

-- a local that is not lendable is written, and on a closed board read, in the running frame alone
pub record LocalsAreOwn (p : Program) (sizes : PlainType → ℕ) (S : ObjectSets) (closed : Bool) (n : Needs) : Type 0 where
  pub stores : (fr : Frame) (rest : List Frame) (f number l : ℕ) (h : Frame) → FramesFit p sizes S (fr ∷ rest) → l < length (func_at p f).locals
      → (Contains n.lendable (f, l) → ⊥) → IsWritten p S fr.func (LocalObject f l) → frame_in (fr ∷ rest) f number ≡ Some h → IsOwn fr f number h
  pub loads : (fr : Frame) (rest : List Frame) (f number l : ℕ) (h : Frame) → closed ≡ true → FramesFit p sizes S (fr ∷ rest) → l < length (func_at p f).locals
      → (Contains n.lendable (f, l) → ⊥) → IsRead p S fr.func (LocalObject f l) → frame_in (fr ∷ rest) f number ≡ Some h → IsOwn fr f number h

abbrev pub OtherLocalsAreLendable : Type 0
OtherLocalsAreLendable =
    (p : Program) (sizes : PlainType → ℕ) (S : ObjectSets) (closed : Bool) (n : Needs) → AreNeeds p S closed n → LocalsAreOwn p sizes S closed n

-- a local without a number among the lent ones is not lendable, where there are two compartments or more
abbrev pub LendableLocalsHaveNumbers : Type 0
LendableLocalsHaveNumbers = (n : Needs) (g : Groups) (f l : ℕ) → nat_lt 1 g.count ≡ true → lend_number n g f l ≡ None → Contains n.lendable (f, l) → ⊥

-- ---- the least sets

abbrev pub IsThere : Program → Object → Type 0
IsThere p (GlobalObject g) = g < length p.globals
IsThere p (PeriphObject q) = q < length p.periphs
IsThere p (LocalObject f l) = l < length (func_at p f).locals
IsThere p (FunctionObject f) = f < length p.funcs

-- the least sets of a typed program have objects of the program alone
abbrev pub LeastSetsHaveObjects : Type 0
LeastSetsHaveObjects =
    (p : Program) (sizes : PlainType → ℕ) (S : ObjectSets) → Typed p sizes → IsLeast p S → (m : Node) (o : Object) → S m o ≡ true → IsThere p o

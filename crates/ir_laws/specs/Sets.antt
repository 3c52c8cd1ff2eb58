-- Which objects the values of a program can be of: a set for each register, for the contents of each object, and for the
-- result of each function, and the rules that keep values in the sets.
use Rattle.std.specs.Prelude.{◌≡◌, ℕ, ◌<◌, List, length, Bool, true, false, Option, Some, None}
use Rattle.std.proofs.Math.ListN.{get_or}
use Rattle.ir_model.specs.Types.{PlainType, Pointer, Callee}
use Rattle.ir_model.specs.Resolved.{Program, Value, Number, Code, Null, At, Named, TheGlobal, ThePeriph, TheLocal, register_type, global_at, NumberedInst, Const, Move, Bin, Cmp, Addr, FAddr, Elem, Field, Load, Store, Call, ICall, NumberedTerm, Jump, Branch, Ret, Here, Does, Ends, here}
use Rattle.ir_model.specs.State.{Object, GlobalObject, PeriphObject, LocalObject, FunctionObject, object_of, StepEffect, Nothing, Loaded, Stored, Called}
use Rattle.ir_model.specs.Signatures.{signature}

-- what holds values: a register of a function in any of its frames, all cells of an object, what a function gives
pub data Node : Type 0 where
  Register : (func register : ℕ) → Node
  Content : Object → Node
  Outcome : (func : ℕ) → Node

-- a set of objects for each node
abbrev pub ObjectSets : Type 0
ObjectSets = Node → Object → Bool

-- the sets that have every object
abbrev pub everything : ObjectSets
everything n o = true

-- the types whose values are of objects
abbrev pub carries : PlainType → Bool
carries (Pointer t) = true
carries (Callee a r) = true
carries _ = false

abbrev pub IsWithin : ObjectSets → Node → Node → Type 0
IsWithin S a b = (o : Object) → S a o ≡ true → S b o ≡ true

-- the objects of one node are those of another, where values of the type carry objects
abbrev pub Flows : ObjectSets → PlainType → Node → Node → Type 0
Flows S t a b = carries t ≡ true → IsWithin S a b

abbrev pub named_object : (func : ℕ) → Named → Object
named_object f (TheGlobal g) = GlobalObject g
named_object f (ThePeriph q) = PeriphObject q
named_object f (TheLocal l) = LocalObject f l

abbrev pub ResultFlows : Program → ObjectSets → (f g : ℕ) → Option ℕ → Type 0
ResultFlows p S f g None = Unit {0}
ResultFlows p S f g (Some to) = Flows S (register_type p f to) (Outcome g) (Register f to)

-- function f calls g: arguments flow to parameters, and the result flows back
pub record CallFlows (p : Program) (S : ObjectSets) (f g : ℕ) (to : Option ℕ) (args : List ℕ) : Type 0 where
  pub arguments : (k : ℕ) → k < length args → Flows S (register_type p g k) (Register f (get_or args k 0)) (Register g k)
  pub outcome : ResultFlows p S f g to

abbrev pub InstFlows : Program → ObjectSets → (f : ℕ) → NumberedInst → Type 0
InstFlows p S f (Const to n) = Unit {0}
InstFlows p S f (Move to from) = Flows S (register_type p f to) (Register f from) (Register f to)
InstFlows p S f (Bin op to a b) = Unit {0}
InstFlows p S f (Cmp op to a b) = Unit {0}
InstFlows p S f (Addr to of) = S (Register f to) (named_object f of) ≡ true
InstFlows p S f (FAddr to g) = S (Register f to) (FunctionObject g) ≡ true
InstFlows p S f (Elem to base i n) = IsWithin S (Register f base) (Register f to)
InstFlows p S f (Field to base n) = IsWithin S (Register f base) (Register f to)
InstFlows p S f (Load to from t) = carries t ≡ true → (o : Object) → S (Register f from) o ≡ true → IsWithin S (Content o) (Register f to)
InstFlows p S f (Store to from t) = carries t ≡ true → (o : Object) → S (Register f to) o ≡ true → IsWithin S (Register f from) (Content o)
InstFlows p S f (Call to g args) = CallFlows p S f g to args
InstFlows p S f (ICall to r args) = (g : ℕ) → S (Register f r) (FunctionObject g) ≡ true → signature p g ≡ register_type p f r → CallFlows p S f g to args

abbrev pub EndFlows : Program → ObjectSets → (f : ℕ) → NumberedTerm → Type 0
EndFlows p S f (Jump b) = Unit {0}
EndFlows p S f (Branch on a b) = Unit {0}
EndFlows p S f (Ret None) = Unit {0}
EndFlows p S f (Ret (Some r)) = Flows S (register_type p f r) (Register f r) (Outcome f)

abbrev pub HereFlows : Program → ObjectSets → (f : ℕ) → Here → Type 0
HereFlows p S f (Does i) = InstFlows p S f i
HereFlows p S f (Ends t) = EndFlows p S f t

-- the object of a value is in a set, if it has one
abbrev pub IsOf : (Object → Bool) → Value → Type 0
IsOf X (Number n) = Unit {0}
IsOf X (Code f) = X (FunctionObject f) ≡ true
IsOf X Null = Unit {0}
IsOf X (At o k) = X (object_of o) ≡ true

-- sets that no step leaves: closed under what stands at each place, and with the initial values of the globals
pub record Closed (p : Program) (S : ObjectSets) : Type 0 where
  pub code : (f b k : ℕ) → HereFlows p S f (here p f b k)
  pub cells : (g k : ℕ) → IsOf (S (Content (GlobalObject g))) (get_or (global_at p g).init k (Number 0))

-- what stands at a place of a function may read, write and call
abbrev pub ReadsAt : ObjectSets → (f : ℕ) → Here → Object → Type 0
ReadsAt S f (Does (Load to from t)) o = S (Register f from) o ≡ true
ReadsAt S f _ o = ⊥

abbrev pub WritesAt : ObjectSets → (f : ℕ) → Here → Object → Type 0
WritesAt S f (Does (Store to from t)) o = S (Register f to) o ≡ true
WritesAt S f _ o = ⊥

abbrev pub CallsAt : Program → ObjectSets → (f : ℕ) → Here → ℕ → Type 0
CallsAt p S f (Does (Call to g args)) h = h ≡ g
CallsAt p S f (Does (ICall to r args)) h = (S (Register f r) (FunctionObject h) ≡ true) × (signature p h ≡ register_type p f r)
CallsAt p S f _ h = ⊥

-- an own load or store of a function may read or write an object
abbrev pub IsRead : Program → ObjectSets → (f : ℕ) → Object → Type 0
IsRead p S f o = (b : ℕ) × (k : ℕ) × ReadsAt S f (here p f b k) o

abbrev pub IsWritten : Program → ObjectSets → (f : ℕ) → Object → Type 0
IsWritten p S f o = (b : ℕ) × (k : ℕ) × WritesAt S f (here p f b k) o

-- what a step reached is what the sets have
abbrev pub IsExpected : Program → ObjectSets → StepEffect → Type 0
IsExpected p S Nothing = Unit {0}
IsExpected p S (Loaded f o) = IsRead p S f o
IsExpected p S (Stored f o) = IsWritten p S f o
IsExpected p S (Called f b k g) = CallsAt p S f (here p f b k) g

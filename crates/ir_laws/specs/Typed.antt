-- Beyond the program's claim: only laws, proofs and functions inside the tool cite this file.
-- The typing of a program at each place of each function, over numbers. `sizes` has the size of each type.
use Rattle.std.specs.Prelude.{◌≡◌, ℕ, ◌^◌, ◌*◌, ◌<◌, ◌≤◌, List, length, Bool, true, false, ◌||◌, Option, Some, None, IsTrue}
use Rattle.std.proofs.Math.ListN.{get_or}
use Rattle.ir_model.specs.Types.{PlainType, U32, Pointer, Callee, PlainTypes, none, PlainResult, nothing, gives, is_integer, is_register_type, width_of}
use Rattle.ir_model.specs.Plain.{PlainFirmware}
use Rattle.ir_model.specs.Layout.{known, shape}
use Rattle.ir_model.specs.Resolved.{Program, Value, Number, Code, Null, At, Instance, OfGlobal, OfPeriph, OfLocal, Named, TheGlobal, ThePeriph, TheLocal, NumberedFunc, func_at, global_at, cells_of_global, NumberedInst, Const, Move, Bin, Cmp, Addr, FAddr, Elem, Field, Load, Store, Call, ICall, NumberedTerm, Jump, Branch, Ret, Here, Does, Ends}
use Rattle.ir_model.specs.Resolve.{resolve}
use Rattle.ir_model.specs.State.{Object, FunctionObject, object_of}
use Rattle.ir_model.specs.Canonical.{IsWithinLimits}
use Rattle.ir_model.specs.Typing.{object_limit, IsTyped}
use Rattle.ir_model.specs.Signatures.{in_row, row_length, signature, type_in, here_of, widened, cell_in}

-- the size of a type in a firmware
abbrev pub sizes_of : PlainFirmware → PlainType → ℕ
sizes_of w t = (shape (known w.structs) t).size

-- a function has this register, and it is of this type
pub record Has (g : NumberedFunc) (r : ℕ) (t : PlainType) : Type 0 where
  pub there : r < length g.regs
  pub ty : type_in g r ≡ t

-- the register that a result is kept in, if it is
abbrev pub KeepsResult : (g : NumberedFunc) → Option ℕ → PlainResult → Type 0
KeepsResult g None r = Unit {0}
KeepsResult g (Some to) r = (t : PlainType) × (r ≡ gives t) × Has g to t

pub record CallTyped (g : NumberedFunc) (to : Option ℕ) (args : List ℕ) (a : PlainTypes) (r : PlainResult) : Type 0 where
  pub count : length args ≡ row_length a
  pub few : length args ≤ 4
  pub arguments : (k : ℕ) → k < length args → Has g (get_or args k 0) (in_row a k)
  pub outcome : KeepsResult g to r

pub record ICallTyped (g : NumberedFunc) (to : Option ℕ) (callee : ℕ) (args : List ℕ) : Type 0 where
  pub params : PlainTypes
  pub outcome : PlainResult
  pub held : Has g callee (Callee params outcome)
  pub call : CallTyped g to args params outcome

-- a type whose values a cell holds
abbrev pub IsCellType : PlainType → Type 0
IsCellType t = (is_integer t || is_register_type t) ≡ true

-- a cell that is pointed to, and the register that it is loaded into or stored from
pub record CellTyped (g : NumberedFunc) (pointer register : ℕ) (t : PlainType) : Type 0 where
  pub from : Has g pointer (Pointer t)
  pub held : Has g register (widened t)
  pub is_cell : IsCellType t

-- what `addr` names is there
abbrev pub IsThere : Program → NumberedFunc → Named → Type 0
IsThere p g (TheGlobal x) = x < length p.globals
IsThere p g (ThePeriph q) = q < length p.periphs
IsThere p g (TheLocal l) = l < length g.locals

-- an object of the program, in whichever frame
abbrev pub IsPlaced : Program → Instance → Type 0
IsPlaced p (OfGlobal x) = x < length p.globals
IsPlaced p (OfPeriph q) = q < length p.periphs
IsPlaced p (OfLocal f n l) = l < length (func_at p f).locals

module _ (p : Program) (sizes : PlainType → ℕ) where
  pub record AddrTyped (g : NumberedFunc) (to : ℕ) (of : Named) : Type 0 where
    pub target : PlainType
    pub held : Has g to (Pointer target)
    pub small : sizes target ≤ object_limit
    pub there : IsThere p g of

  -- a pointer to a part of an array or of a struct
  pub record PartTyped (g : NumberedFunc) (to base : ℕ) (part : PlainType) : Type 0 where
    pub whole : PlainType
    pub from : Has g base (Pointer whole)
    pub held : Has g to (Pointer part)
    pub smaller : sizes whole ≤ object_limit → sizes part ≤ object_limit

  pub record ElemTyped (g : NumberedFunc) (to base index size : ℕ) : Type 0 where
    pub element : PlainType
    pub part : PartTyped g to base element
    pub by : Has g index U32
    pub exact : size ≡ sizes element

  pub record FieldTyped (g : NumberedFunc) (to base offset : ℕ) : Type 0 where
    pub field : PlainType
    pub part : PartTyped g to base field
    pub near : offset ≤ object_limit

  abbrev pub InstTyped : NumberedFunc → NumberedInst → Type 0
  InstTyped g (Const to v) = Has g to U32 × (v < 2 ^ 32)
  InstTyped g (Move to from) = (t : PlainType) × Has g to t × Has g from t
  InstTyped g (Bin op to a b) = Has g to U32 × Has g a U32 × Has g b U32
  InstTyped g (Cmp op to a b) = Has g to U32 × Has g a U32 × Has g b U32
  InstTyped g (Addr to of) = AddrTyped g to of
  InstTyped g (FAddr to f) = Has g to (signature p f) × (f < length p.funcs)
  InstTyped g (Elem to base index size) = ElemTyped g to base index size
  InstTyped g (Field to base offset) = FieldTyped g to base offset
  InstTyped g (Load to from t) = CellTyped g from to t
  InstTyped g (Store to from t) = CellTyped g to from t
  InstTyped g (Call to f args) = (f < length p.funcs) × CallTyped g to args (func_at p f).params (func_at p f).outcome
  InstTyped g (ICall to r args) = ICallTyped g to r args

  -- a place that is not there holds a jump to block 0, so a jump counts only where the function has a block
  abbrev pub EndTyped : NumberedFunc → NumberedTerm → Type 0
  EndTyped g (Jump b) = 0 < length g.blocks → b < length g.blocks
  EndTyped g (Branch on a b) = Has g on U32 × (a < length g.blocks) × (b < length g.blocks)
  EndTyped g (Ret None) = g.outcome ≡ nothing
  EndTyped g (Ret (Some r)) = (t : PlainType) × (g.outcome ≡ gives t) × Has g r t

  abbrev pub HereTyped : NumberedFunc → Here → Type 0
  HereTyped g (Does i) = InstTyped g i
  HereTyped g (Ends t) = EndTyped g t

  -- a function: its registers begin with the parameters, and are of types of registers
  pub record FuncTyped (g : NumberedFunc) : Type 0 where
    pub params : (k : ℕ) → k < row_length g.params → Has g k (in_row g.params k)
    pub registers : (r : ℕ) → IsTrue (is_register_type (type_in g r))
    pub code : (b k : ℕ) → HereTyped g (here_of g b k)

  -- a value that a type allows, of an object in a set. What a pointer that is not null points to is no larger than an object
  pub data Fits (X : Object → Bool) : PlainType → Value → Type 0 where
    number : {t : PlainType} (n : ℕ) → is_integer t ≡ true → n < 2 ^ (8 * width_of t) → Fits X t (Number n)
    null : {t : PlainType} → is_integer t ≡ false → Fits X t Null
    at : {t : PlainType} (o : Instance) (k : ℕ) → X (object_of o) ≡ true → k < 2 ^ 32 → IsPlaced p o → sizes t ≤ object_limit → Fits X (Pointer t) (At o k)
    code : {a : PlainTypes} {r : PlainResult} (g : ℕ) → signature p g ≡ Callee a r → X (FunctionObject g) ≡ true → g < length p.funcs → Fits X (Callee a r) (Code g)

  -- every function has a block and is typed, the initial values fit their cells, and `main` takes and gives nothing
  pub record Typed : Type 0 where
    pub funcs : (f : ℕ) → FuncTyped (func_at p f)
    pub blocks : (f : ℕ) → f < length p.funcs → 0 < length (func_at p f).blocks
    pub cells : (g k : ℕ) → Fits (λ _. true) (cell_in (cells_of_global p g) k).ty (get_or (global_at p g).init k (Number 0))
    pub counts : (g : ℕ) → length (global_at p g).init ≡ length (cells_of_global p g)
    pub main : p.main < length p.funcs
    pub takes_nothing : signature p p.main ≡ Callee none nothing

-- a firmware that is typed and within the limits is typed at each place
abbrev pub TypedOverNumbers : Type 0
TypedOverNumbers = (w : PlainFirmware) → IsTyped w → IsWithinLimits w → Typed (resolve w) (sizes_of w)

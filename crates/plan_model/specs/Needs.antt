-- What the functions of a program may reach, by sets of objects for what holds values.
use Rattle.std.specs.Prelude.{◌≡◌, ℕ, ◌<◌, ◌⊎◌, List, [], length, get_or, Bool, false}
use Rattle.std.specs.List.{AllZip, list_any}
use Rattle.std.specs.Ordering.{nat_cmp, eq_by_cmp}
use Rattle.ir_model.specs.declared.object.ObjId.{ObjId}
use Rattle.ir_model.specs.Resolved.{Program, global_at}
use Rattle.ir_model.specs.State.{Object, GlobalObject, PeriphObject, FunctionObject}
use Rattle.ir_model.specs.Objects.{object_by, compare_objects}
use Rattle.ir_laws.specs.Sets.{ObjectSets, IsRead, IsWritten}
use Rattle.plan_model.specs.declared.needs.FuncNeed.{FuncNeed}
use Rattle.plan_model.specs.declared.needs.Needs.{Needs}
use Rattle.plan_model.specs.Lists.{ListsExactly}
use Rattle.plan_model.specs.Calls.{IsCallee, call_places, IsSiteOf}
use Rattle.plan_model.specs.Lendable.{IsLendable, compare_locals}

-- ---- look-ups

-- of a function that is not there
abbrev pub no_need : FuncNeed
no_need = record { written = []; read = []; periphs = []; callees = [] }

-- what one function may reach
abbrev pub need_of : Needs → (func : ℕ) → FuncNeed
need_of n f = get_or n.funcs f no_need

-- whether an object is one of a list
abbrev pub has_object : List ObjId → ObjId → Bool
has_object os o = list_any (λ x. eq_by_cmp compare_objects x o) os

-- ---- one function

-- globals, peripherals and locals
abbrev pub IsData : Object → Type 0
IsData (FunctionObject f) = ⊥
IsData _ = Unit {0}

-- those that are not constant
abbrev pub IsWritable : Program → Object → Type 0
IsWritable p (GlobalObject g) = (global_at p g).constant ≡ false
IsWritable p o = IsData o

-- what function f may reach by its own instructions
pub record IsNeedOf (p : Program) (S : ObjectSets) (f : ℕ) (n : FuncNeed) : Type 0 where
  pub written : ListsExactly compare_objects (λ o. IsWritable p (object_by o) × IsWritten p S f (object_by o)) n.written
  pub read : ListsExactly compare_objects (λ o. IsData (object_by o) × IsRead p S f (object_by o)) n.read
  pub periphs : ListsExactly nat_cmp (λ q. IsWritten p S f (PeriphObject q) ⊎ IsRead p S f (PeriphObject q)) n.periphs
  pub callees : ListsExactly nat_cmp (IsCallee p S f) n.callees

-- ---- all functions

-- the needs of a program by these sets, for an open or a closed board
pub record AreNeeds (p : Program) (S : ObjectSets) (closed : Bool) (n : Needs) : Type 0 where
  pub count : length n.funcs ≡ length p.funcs
  pub funcs : (f : ℕ) → f < length p.funcs → IsNeedOf p S f (need_of n f)
  pub sites : AllZip (IsSiteOf p S) (call_places p) n.sites
  pub lendable : ListsExactly compare_locals (λ x. IsLendable p S closed x.0 x.1) n.lendable
  pub kind : n.closed ≡ closed

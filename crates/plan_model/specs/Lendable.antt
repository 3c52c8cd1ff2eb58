-- Lendable locals, which may have to be written or read while their function waits for another.
use Rattle.std.specs.Prelude.{◌≡◌, ◌≢◌, ℕ, ◌<◌, Bool, true, length}
use Rattle.std.specs.declared.cmp.Ordering.{Ordering}
use Rattle.std.specs.Ordering.{nat_cmp, on, then_cmp}
use Rattle.ir_model.specs.Resolved.{Program, func_at}
use Rattle.ir_model.specs.State.{LocalObject}
use Rattle.ir_laws.specs.Sets.{ObjectSets, IsRead, IsWritten}
use Rattle.plan_model.specs.Calls.{Reaches}

-- why a local of function f is lendable: another function may write it, or on a closed board read it, or f can reach itself by
-- calls, so that the local may be that of an earlier frame
pub data LendCause (p : Program) (S : ObjectSets) (closed : Bool) (f l : ℕ) : Type 0 where
  OthersWrite : (g : ℕ) → g ≢ f → IsWritten p S g (LocalObject f l) → LendCause p S closed f l
  OthersRead : (g : ℕ) → closed ≡ true → g ≢ f → IsRead p S g (LocalObject f l) → LendCause p S closed f l
  CallsItself : Reaches p S f f → LendCause p S closed f l

-- a local of the program for which there is a cause
pub record IsLendable (p : Program) (S : ObjectSets) (closed : Bool) (f l : ℕ) : Type 0 where
  pub there : l < length (func_at p f).locals
  pub cause : LendCause p S closed f l

-- the order of locals, each given by its function's number and its own
abbrev pub compare_locals : ℕ × ℕ → ℕ × ℕ → Ordering
compare_locals = then_cmp (on (λ (x : ℕ × ℕ). x.0) nat_cmp) (on (λ (x : ℕ × ℕ). x.1) nat_cmp)

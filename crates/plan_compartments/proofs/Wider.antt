-- All that may be read, written, called and lent by sets of objects may be read, written, called and lent by sets that contain them.
use Rattle.std.proofs.Common.{◌≡◌, ℕ, Bool, true}
use Rattle.ir_model.specs.Resolved.{Program, Load, Store, Call, ICall, Does, Here, here}
use Rattle.ir_model.specs.State.{Object, FunctionObject, LocalObject}
use Rattle.ir_laws.specs.Sets.{Node, Register, ObjectSets, ReadsAt, WritesAt, CallsAt, IsRead, IsWritten}
use Rattle.plan_model.specs.Calls.{IsCallee, Reaches, directly, further}
use Rattle.plan_model.specs.Lendable.{LendCause, OthersWrite, OthersRead, CallsItself, IsLendable}

-- each object of a set of the first is one of the second's
abbrev pub AreWithin : ObjectSets → ObjectSets → Type 0
AreWithin S Q = (m : Node) (o : Object) → S m o ≡ true → Q m o ≡ true

module _ (p : Program) (S Q : ObjectSets) (wider : AreWithin S Q) where
  read_at : (f : ℕ) (h : Here) (o : Object) → ReadsAt S f h o → ReadsAt Q f h o
  read_at f (Does (Load to from t)) o r = wider (Register f from) o r
  read_at f _ o r = absurd r

  written_at : (f : ℕ) (h : Here) (o : Object) → WritesAt S f h o → WritesAt Q f h o
  written_at f (Does (Store to from t)) o r = wider (Register f to) o r
  written_at f _ o r = absurd r

  pub called_at : (f : ℕ) (h : Here) (g : ℕ) → CallsAt p S f h g → CallsAt p Q f h g
  called_at f (Does (Call to g args)) k r = r
  called_at f (Does (ICall to c args)) k r = (wider (Register f c) (FunctionObject k) r.0, r.1)
  called_at f _ k r = absurd r

  pub read : (f : ℕ) (o : Object) → IsRead p S f o → IsRead p Q f o
  read f o r = (r.0, r.1, read_at f (here p f r.0 r.1) o r.2)

  pub written : (f : ℕ) (o : Object) → IsWritten p S f o → IsWritten p Q f o
  written f o r = (r.0, r.1, written_at f (here p f r.0 r.1) o r.2)

  pub callee : (f g : ℕ) → IsCallee p S f g → IsCallee p Q f g
  callee f g r = (r.0, r.1, called_at f (here p f r.0 r.1) g r.2)

  reached : (f g : ℕ) → Reaches p S f g → Reaches p Q f g
  reached f g (directly c) = directly (callee f g c)
  reached f g (further {g = h} c r) = further (callee f h c) (reached h g r)

  cause : (closed : Bool) (f l : ℕ) → LendCause p S closed f l → LendCause p Q closed f l
  cause closed f l (OthersWrite g n r) = OthersWrite g n (written g (LocalObject f l) r)
  cause closed f l (OthersRead g k n r) = OthersRead g k n (read g (LocalObject f l) r)
  cause closed f l (CallsItself r) = CallsItself (reached f f r)

  pub lendable : (closed : Bool) (f l : ℕ) → IsLendable p S closed f l → IsLendable p Q closed f l
  lendable closed f l r = record { there = r.there; cause = cause closed f l r.cause }

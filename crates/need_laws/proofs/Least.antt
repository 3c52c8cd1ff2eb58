-- The least sets of a typed program have objects of the program alone.
use Rattle.std.proofs.Common.{◌≡◌, ℕ, Bool, true, ◌&&◌, List, length, Option, Some, None, nat_lt, get_or, sym, subst}
use Rattle.std.proofs.lemmas.Bool.{and_parts, and_from, ltb-true, lt-ltb}
use Rattle.ir_model.specs.Types.{PlainType}
use Rattle.ir_model.specs.Resolved.{Program, Value, Instance, OfGlobal, OfPeriph, OfLocal, Named, TheGlobal, ThePeriph, TheLocal, NumberedInst, Const, Move, Bin, Cmp, Addr, FAddr, Elem, Field, Load, Store, Call, ICall, NumberedTerm, Jump, Branch, Ret, Here, Does, Ends, func_at, register_type, here}
use Rattle.ir_model.specs.State.{Object, GlobalObject, PeriphObject, LocalObject, FunctionObject, object_of}
use Rattle.ir_laws.specs.Sets.{Node, Register, Content, Outcome, ObjectSets, IsWithin, Flows, named_object, ResultFlows, CallFlows, InstFlows, EndFlows, HereFlows, IsOf, Closed}
use Rattle.ir_laws.specs.Typed.{IsThere as NamesThere, IsPlaced, InstTyped, HereTyped, Fits, number, null, at, code, Typed, sizes_of, TypedOverNumbers}
use Rattle.plan_model.specs.PointsTo.{IsLeast}
use Rattle.need_laws.specs.Checked.{LeastSetsServe}
use Rattle.need_laws.specs.Laws.{IsThere, LeastSetsHaveObjects}

abbrev is_object : Program → Object → Bool
is_object p (GlobalObject g) = nat_lt g (length p.globals)
is_object p (PeriphObject q) = nat_lt q (length p.periphs)
is_object p (LocalObject f l) = nat_lt l (length (func_at p f).locals)
is_object p (FunctionObject f) = nat_lt f (length p.funcs)

object_there : (p : Program) (o : Object) → is_object p o ≡ true → IsThere p o
object_there p (GlobalObject g) h = ltb-true g (length p.globals) h
object_there p (PeriphObject q) h = ltb-true q (length p.periphs) h
object_there p (LocalObject f l) h = ltb-true l (length (func_at p f).locals) h
object_there p (FunctionObject f) h = ltb-true f (length p.funcs) h

module _ (p : Program) (z : PlainType → ℕ) (S : ObjectSets) (typed : Typed p z) where
  abbrev Q : ObjectSets
  Q n o = S n o && is_object p o

  within : (a b : Node) → IsWithin S a b → IsWithin Q a b
  within a b h o e = and_from (S b o) (is_object p o) (h o (and_parts (S a o) (is_object p o) e).0) (and_parts (S a o) (is_object p o) e).1

  flows : (t : PlainType) (a b : Node) → Flows S t a b → Flows Q t a b
  flows t a b h c = within a b (h c)

  results : (f g : ℕ) (to : Option ℕ) → ResultFlows p S f g to → ResultFlows p Q f g to
  results f g None h = tt
  results f g (Some to) h = flows (register_type p f to) (Outcome g) (Register f to) h

  calls : (f g : ℕ) (to : Option ℕ) (args : List ℕ) → CallFlows p S f g to args → CallFlows p Q f g to args
  calls f g to args h = record { arguments = λ k l. flows (register_type p g k) (Register f (get_or args k 0)) (Register g k) (h.arguments k l); outcome = results f g to h.outcome }

  named_there : (f : ℕ) (of : Named) → NamesThere p (func_at p f) of → is_object p (named_object f of) ≡ true
  named_there f (TheGlobal g) h = lt-ltb g (length p.globals) h
  named_there f (ThePeriph q) h = lt-ltb q (length p.periphs) h
  named_there f (TheLocal l) h = lt-ltb l (length (func_at p f).locals) h

  placed_there : (o : Instance) → IsPlaced p o → is_object p (object_of o) ≡ true
  placed_there (OfGlobal g) h = lt-ltb g (length p.globals) h
  placed_there (OfPeriph q) h = lt-ltb q (length p.periphs) h
  placed_there (OfLocal f n l) h = lt-ltb l (length (func_at p f).locals) h

  inst_flows : (f : ℕ) (i : NumberedInst) → InstTyped p z (func_at p f) i → InstFlows p S f i → InstFlows p Q f i
  inst_flows f (Const to n) t h = tt
  inst_flows f (Move to from) t h = flows (register_type p f to) (Register f from) (Register f to) h
  inst_flows f (Bin op to a b) t h = tt
  inst_flows f (Cmp op to a b) t h = tt
  inst_flows f (Addr to of) t h = and_from _ _ h (named_there f of t.there)
  inst_flows f (FAddr to g) t h = and_from _ _ h (lt-ltb g (length p.funcs) t.1)
  inst_flows f (Elem to base i n) t h = within (Register f base) (Register f to) h
  inst_flows f (Field to base n) t h = within (Register f base) (Register f to) h
  inst_flows f (Load to from u) t h = λ c o e. within (Content o) (Register f to) (h c o (and_parts (S (Register f from) o) (is_object p o) e).0)
  inst_flows f (Store to from u) t h = λ c o e. within (Register f from) (Content o) (h c o (and_parts (S (Register f to) o) (is_object p o) e).0)
  inst_flows f (Call to g args) t h = calls f g to args h
  inst_flows f (ICall to r args) t h = λ g e s. calls f g to args (h g (and_parts (S (Register f r) (FunctionObject g)) (is_object p (FunctionObject g)) e).0 s)

  end_flows : (f : ℕ) (t : NumberedTerm) → EndFlows p S f t → EndFlows p Q f t
  end_flows f (Jump b) h = tt
  end_flows f (Branch c a b) h = tt
  end_flows f (Ret None) h = tt
  end_flows f (Ret (Some r)) h = flows (register_type p f r) (Register f r) (Outcome f) h

  here_flows : (f : ℕ) (x : Here) → HereTyped p z (func_at p f) x → HereFlows p S f x → HereFlows p Q f x
  here_flows f (Does i) t h = inst_flows f i t h
  here_flows f (Ends t) u h = end_flows f t h

  cell_of : (n : Node) (t : PlainType) (v : Value) → Fits p z (λ _. true) t v → IsOf (S n) v → IsOf (Q n) v
  cell_of n t v (number k e l) h = tt
  cell_of n t v (null e) h = tt
  cell_of n t v (at o k e l i s) h = and_from _ _ h (placed_there o i)
  cell_of n t v (code g s e i) h = and_from _ _ h (lt-ltb g (length p.funcs) i)

  closed_there : Closed p S → Closed p Q
  closed_there c =
      record {
        code = λ f b k. here_flows f (here p f b k) ((typed.funcs f).code b k) (c.code f b k);
        cells = λ g k. cell_of (Content (GlobalObject g)) _ _ (typed.cells g k) (c.cells g k);
      }

  only_objects : IsLeast p S → (n : Node) (o : Object) → S n o ≡ true → IsThere p o
  only_objects l n o e = object_there p o (and_parts (S n o) (is_object p o) (l.least Q (closed_there l.closed) n o e)).1

pub least_sets_have_objects : LeastSetsHaveObjects
least_sets_have_objects p sizes S typed least m o h = only_objects p sizes S typed least m o h

pub least_sets_serve : TypedOverNumbers → LeastSetsServe
least_sets_serve typing p S k l =
    record {
      closed = l.closed;
      there = least_sets_have_objects p (sizes_of k.firmware) S (subst (λ q. Typed q (sizes_of k.firmware)) (sym k.is) (typing k.firmware k.typed k.within)) l;
    }

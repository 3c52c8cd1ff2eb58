-- The sets of the function that calls itself are the least, and its needs are those by them.
use Rattle.std.proofs.Common.{◌≡◌, ℕ, zero, suc, ◌<◌, true, false, length, get_or, refl, arith}
use Rattle.std.specs.Prelude.{◌⊎◌}
use mathlib.Core.Logic.{inl, inr}
use Rattle.std.specs.Ordering.{nat_cmp}
use Rattle.ir_model.specs.declared.object.ObjId.{ObjId}
use Rattle.ir_model.specs.declared.object.ObjId.TheVariants.{Global, Periph, Local, Func}
use Rattle.ir_model.specs.Resolved.{Number, global_at, here, func_at}
use Rattle.ir_model.specs.State.{Object, GlobalObject, PeriphObject}
use Rattle.ir_model.specs.Objects.{object_by, compare_objects}
use Rattle.ir_laws.specs.Sets.{Node, Register, Content, ObjectSets, HereFlows, IsOf, Closed, ReadsAt, WritesAt, CallsAt, IsRead, IsWritten}
use Rattle.plan_model.specs.Calls.{IsCallee, directly}
use Rattle.plan_model.specs.Lendable.{IsLendable, CallsItself, compare_locals}
use Rattle.plan_model.specs.Needs.{IsWritable, IsData, IsNeedOf, need_of}
use Rattle.example_plan.proofs.OneItem.{one_item, no_item}
use Rattle.example_plan.specs.SelfCall.{program, sets, needs, HasSelfCall}

code : (f b k : ℕ) → HereFlows program sets f (here program f b k)
code zero zero zero = refl
code zero zero (suc zero) = λ c. cc
code zero zero (suc (suc zero)) = λ c. cc
code zero zero (suc (suc (suc zero))) = record { arguments = λ k l. absurd (omega arith); outcome = tt }
code zero zero (suc (suc (suc (suc k)))) = tt
code zero (suc b) k = tt
code (suc f) b k = tt

cells : (g k : ℕ) → IsOf (sets (Content (GlobalObject g))) (get_or (global_at program g).init k (Number 0))
cells zero zero = tt
cells zero (suc k) = tt
cells (suc g) zero = tt
cells (suc g) (suc k) = tt

least : (Q : ObjectSets) → Closed program Q → (n : Node) (o : Object) → sets n o ≡ true → Q n o ≡ true
least Q h (Register zero zero) (GlobalObject zero) e = h.code 0 0 0
least Q h _ _ e = cc

the_constant : (o : Object) → sets (Register 0 0) o ≡ true → o ≡ GlobalObject 0
the_constant (GlobalObject zero) e = refl
the_constant _ e = cc

writes : (o : Object) (b k : ℕ) → WritesAt sets 0 (here program 0 b k) o → o ≡ GlobalObject 0
writes o zero (suc (suc zero)) w = the_constant o w
writes o zero (suc (suc (suc zero))) w = absurd w
writes o _ _ w = absurd w

reads : (o : Object) (b k : ℕ) → ReadsAt sets 0 (here program 0 b k) o → o ≡ GlobalObject 0
reads o zero (suc zero) w = the_constant o w
reads o zero (suc (suc (suc zero))) w = absurd w
reads o _ _ w = absurd w

calls : (g b k : ℕ) → CallsAt program sets 0 (here program 0 b k) g → g ≡ 0
calls g zero (suc (suc (suc zero))) w = w
calls g _ _ w = absurd w

constant_by : (o : ObjId) → object_by o ≡ GlobalObject 0 → o ≡ Global 0
constant_by (Global g) e = cc
constant_by _ e = cc

constant : (o : ObjId) → object_by o ≡ GlobalObject 0 → IsWritable program (object_by o) → ⊥
constant (Global zero) e h = cc
constant (Global (suc g)) e h = cc
constant (Periph q) e h = cc
constant (Local f l) e h = cc
constant (Func f) e h = cc

need : IsNeedOf program sets 0 (need_of needs 0)
need = record {
  written = no_item compare_objects (λ o. IsWritable program (object_by o) × IsWritten program sets 0 (object_by o)) (λ o w. constant o (writes (object_by o) w.1.0 w.1.1 w.1.2) w.0);
  read = one_item compare_objects (λ o. IsData (object_by o) × IsRead program sets 0 (object_by o)) (Global 0) (tt, (0, 1, refl)) (λ o w. constant_by o (reads (object_by o) w.1.0 w.1.1 w.1.2));
  periphs = no_item nat_cmp (λ q. IsWritten program sets 0 (PeriphObject q) ⊎ IsRead program sets 0 (PeriphObject q)) none;
  callees = one_item nat_cmp (IsCallee program sets 0) 0 (0, 3, refl) (λ g w. calls g w.0 w.1 w.2);
}
  where
    none : (q : ℕ) → IsWritten program sets 0 (PeriphObject q) ⊎ IsRead program sets 0 (PeriphObject q) → ⊥
    none q (inl w) = let e = writes (PeriphObject q) w.0 w.1 w.2 in cc
    none q (inr w) = let e = reads (PeriphObject q) w.0 w.1 w.2 in cc

each_need : (f : ℕ) → f < 1 → IsNeedOf program sets f (need_of needs f)
each_need zero l = need
each_need (suc f) l = absurd (omega arith)

only_local : (f l : ℕ) → l < length (func_at program f).locals → ◌≡◌ {A = ℕ × ℕ} (f, l) (0, 0)
only_local zero zero h = refl
only_local zero (suc l) h = absurd (omega arith)
only_local (suc f) l h = absurd (omega arith)

pub has_self_call : HasSelfCall
has_self_call = record {
  least = record { closed = record { code = code; cells = cells }; least = least };
  needs_by_them = record {
    count = refl;
    funcs = each_need;
    sites = (record { func = refl; block = refl; inst = refl; targets = one_item nat_cmp (CallsAt program sets 0 (here program 0 0 3)) 0 refl (λ g w. w) }, tt);
    lendable = one_item compare_locals (λ x. IsLendable program sets false x.0 x.1) (0, 0) (record { there = omega arith; cause = CallsItself (directly (0, 3, refl)) }) (λ x h. only_local x.0 x.1 h.there);
    kind = refl;
  };
}

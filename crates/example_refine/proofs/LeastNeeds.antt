-- The sets of the firmware are the least, and its needs are those by them.
use Rattle.std.proofs.Common.{◌≡◌, ℕ, zero, suc, ◌<◌, true, [], ◌∷◌, length, get_or, sym, subst, refl, arith, inl, inr}
use Rattle.std.specs.Prelude.{◌⊎◌, Contains}
use Rattle.std.specs.List.Sorted.{IsStrictlySortedBy}
use Rattle.std.specs.Ordering.{nat_cmp}
use Rattle.ir_model.specs.declared.object.ObjId.{ObjId}
use Rattle.ir_model.specs.declared.object.ObjId.TheVariants.{Global, Periph, Local}
use Rattle.ir_model.specs.Resolved.{Number, global_at, here, func_at, register_type}
use Rattle.ir_model.specs.State.{Object, GlobalObject, PeriphObject, LocalObject}
use Rattle.ir_model.specs.Objects.{object_by, compare_objects}
use Rattle.ir_laws.specs.Sets.{Node, Register, Content, ObjectSets, Flows, HereFlows, IsOf, Closed, ReadsAt, WritesAt, CallsAt, IsRead, IsWritten}
use Rattle.plan_model.specs.Lists.{ListsExactly}
use Rattle.plan_model.specs.Calls.{IsCallee}
use Rattle.plan_model.specs.Lendable.{IsLendable, OthersWrite, compare_locals}
use Rattle.plan_model.specs.Needs.{IsWritable, IsData, IsNeedOf, need_of, AreNeeds}
use Rattle.example_refine.specs.TwoCompartments.{program, needs, sets, AreItsNeeds}
use Rattle.ir_laws.proofs.Objects.{same_id}
use Rattle.example_plan.proofs.OneItem.{number_of_periph, one_argument, one_item, no_item}

-- ---- the least sets

main_to_writer : (o : Object) → sets (Register 0 0) o ≡ true → sets (Register 1 0) o ≡ true
main_to_writer (LocalObject zero zero) e = refl
main_to_writer _ e = cc

code : (f b k : ℕ) → HereFlows program sets f (here program f b k)
code zero zero zero = refl
code zero zero (suc zero) = record { arguments = one_argument (λ k. Flows sets (register_type program 1 k) (Register 0 (get_or (0 ∷ []) k 0)) (Register 1 k)) (λ c. main_to_writer); outcome = tt }
code zero zero (suc (suc zero)) = λ c. cc
code zero zero (suc (suc (suc k))) = tt
code (suc zero) zero zero = refl
code (suc zero) zero (suc zero) = λ c. cc
code (suc zero) zero (suc (suc zero)) = λ c. cc
code (suc zero) zero (suc (suc (suc zero))) = refl
code (suc zero) zero (suc (suc (suc (suc zero)))) = λ c. cc
code (suc zero) zero (suc (suc (suc (suc (suc k))))) = tt
code zero (suc b) k = tt
code (suc zero) (suc b) k = tt
code (suc (suc n)) b k = tt

cells : (g k : ℕ) → IsOf (sets (Content (GlobalObject g))) (get_or (global_at program g).init k (Number 0))
cells zero zero = tt
cells zero (suc k) = tt
cells (suc g) zero = tt
cells (suc g) (suc k) = tt

least : (Q : ObjectSets) → Closed program Q → (n : Node) (o : Object) → sets n o ≡ true → Q n o ≡ true
least Q h (Register zero zero) (LocalObject zero zero) e = h.code 0 0 0
least Q h (Register (suc zero) zero) (LocalObject zero zero) e = (h.code 0 0 1).arguments 0 (omega arith) refl (LocalObject 0 0) (h.code 0 0 0)
least Q h (Register (suc zero) (suc zero)) (GlobalObject zero) e = h.code 1 0 0
least Q h (Register (suc zero) (suc (suc (suc zero)))) (PeriphObject zero) e = h.code 1 0 3
least Q h _ _ e = cc

-- ---- lists of exactly one thing, of two and of none

-- ---- objects by their numbers

-- ---- what each function writes, reads and calls

the_local : (o : Object) → sets (Register 0 0) o ≡ true → o ≡ LocalObject 0 0
the_local (LocalObject zero zero) e = refl
the_local _ e = cc

lent_local : (o : Object) → sets (Register 1 0) o ≡ true → o ≡ LocalObject 0 0
lent_local (LocalObject zero zero) e = refl
lent_local _ e = cc

the_global : (o : Object) → sets (Register 1 1) o ≡ true → o ≡ GlobalObject 0
the_global (GlobalObject zero) e = refl
the_global _ e = cc

the_window : (o : Object) → sets (Register 1 3) o ≡ true → o ≡ PeriphObject 0
the_window (PeriphObject zero) e = refl
the_window _ e = cc

main_writes : (o : Object) (b k : ℕ) → WritesAt sets 0 (here program 0 b k) o → ⊥
main_writes o zero zero w = w
main_writes o zero (suc zero) w = w
main_writes o zero (suc (suc zero)) w = w
main_writes o _ _ w = w

main_reads : (o : Object) (b k : ℕ) → ReadsAt sets 0 (here program 0 b k) o → o ≡ LocalObject 0 0
main_reads o zero (suc (suc zero)) w = the_local o w
main_reads o zero zero w = absurd w
main_reads o zero (suc zero) w = absurd w
main_reads o _ _ w = absurd w

main_calls : (g b k : ℕ) → CallsAt program sets 0 (here program 0 b k) g → g ≡ 1
main_calls g zero (suc zero) w = w
main_calls g zero zero w = absurd w
main_calls g zero (suc (suc zero)) w = absurd w
main_calls g _ _ w = absurd w

writer_writes : (o : Object) (b k : ℕ) → WritesAt sets 1 (here program 1 b k) o → (o ≡ LocalObject 0 0) ⊎ (o ≡ PeriphObject 0)
writer_writes o zero (suc (suc zero)) w = inl (lent_local o w)
writer_writes o zero (suc (suc (suc (suc zero)))) w = inr (the_window o w)
writer_writes o zero (suc zero) w = absurd w
writer_writes o _ _ w = absurd w

writer_reads : (o : Object) (b k : ℕ) → ReadsAt sets 1 (here program 1 b k) o → o ≡ GlobalObject 0
writer_reads o zero (suc zero) w = the_global o w
writer_reads o zero (suc (suc zero)) w = absurd w
writer_reads o zero (suc (suc (suc (suc zero)))) w = absurd w
writer_reads o _ _ w = absurd w

writer_calls : (g b k : ℕ) → CallsAt program sets 1 (here program 1 b k) g → ⊥
writer_calls g zero (suc zero) w = w
writer_calls g zero (suc (suc zero)) w = w
writer_calls g zero (suc (suc (suc (suc zero)))) w = w
writer_calls g _ _ w = w

-- ---- the needs of each function

main_need : IsNeedOf program sets 0 (need_of needs 0)
main_need = record {
  written = no_item compare_objects (λ o. IsWritable program (object_by o) × IsWritten program sets 0 (object_by o)) (λ o w. main_writes (object_by o) w.1.0 w.1.1 w.1.2);
  read = one_item compare_objects (λ o. IsData (object_by o) × IsRead program sets 0 (object_by o)) (Local 0 0) (tt, (0, 2, refl)) (λ o w. same_id o (Local 0 0) (main_reads (object_by o) w.1.0 w.1.1 w.1.2));
  periphs = no_item nat_cmp (λ q. IsWritten program sets 0 (PeriphObject q) ⊎ IsRead program sets 0 (PeriphObject q)) none;
  callees = one_item nat_cmp (IsCallee program sets 0) 1 (0, 1, refl) (λ g w. main_calls g w.0 w.1 w.2);
}
  where
    none : (q : ℕ) → IsWritten program sets 0 (PeriphObject q) ⊎ IsRead program sets 0 (PeriphObject q) → ⊥
    none q (inl w) = main_writes (PeriphObject q) w.0 w.1 w.2
    none q (inr w) = let e = main_reads (PeriphObject q) w.0 w.1 w.2 in cc

two_written : ListsExactly compare_objects (λ o. IsWritable program (object_by o) × IsWritten program sets 1 (object_by o)) (Periph 0 ∷ Local 0 0 ∷ [])
unfolding IsStrictlySortedBy
two_written = record { rising = ((refl, tt), (tt, tt)); each = each; all = λ o w. by o (writer_writes (object_by o) w.1.0 w.1.1 w.1.2) }
  where
    each : (o : ObjId) → Contains (Periph 0 ∷ Local 0 0 ∷ []) o → IsWritable program (object_by o) × IsWritten program sets 1 (object_by o)
    each o (zero, l, e) = subst (λ (x : ObjId). IsWritable program (object_by x) × IsWritten program sets 1 (object_by x)) e (tt, (0, 4, refl))
    each o (suc zero, l, e) = subst (λ (x : ObjId). IsWritable program (object_by x) × IsWritten program sets 1 (object_by x)) e (tt, (0, 2, refl))
    each o (suc (suc k), l, e) = absurd (omega arith)

    by : (o : ObjId) → (object_by o ≡ LocalObject 0 0) ⊎ (object_by o ≡ PeriphObject 0) → Contains (Periph 0 ∷ Local 0 0 ∷ []) o
    by o (inl e) = (1, omega arith, sym (same_id o (Local 0 0) e))
    by o (inr e) = (0, omega arith, sym (same_id o (Periph 0) e))

writer_need : IsNeedOf program sets 1 (need_of needs 1)
writer_need = record {
  written = two_written;
  read = one_item compare_objects (λ o. IsData (object_by o) × IsRead program sets 1 (object_by o)) (Global 0) (tt, (0, 1, refl)) (λ o w. same_id o (Global 0) (writer_reads (object_by o) w.1.0 w.1.1 w.1.2));
  periphs = one_item nat_cmp (λ q. IsWritten program sets 1 (PeriphObject q) ⊎ IsRead program sets 1 (PeriphObject q)) 0 (inl (0, 4, refl)) only;
  callees = no_item nat_cmp (IsCallee program sets 1) (λ g w. writer_calls g w.0 w.1 w.2);
}
  where
    by : (q : ℕ) → (PeriphObject q ≡ LocalObject 0 0) ⊎ (PeriphObject q ≡ PeriphObject 0) → q ≡ 0
    by q (inl e) = cc
    by q (inr e) = number_of_periph q 0 e

    only : (q : ℕ) → IsWritten program sets 1 (PeriphObject q) ⊎ IsRead program sets 1 (PeriphObject q) → q ≡ 0
    only q (inl w) = by q (writer_writes (PeriphObject q) w.0 w.1 w.2)
    only q (inr w) = let e = writer_reads (PeriphObject q) w.0 w.1 w.2 in cc

-- ---- all of it

each_need : (f : ℕ) → f < 2 → IsNeedOf program sets f (need_of needs f)
each_need zero l = main_need
each_need (suc zero) l = writer_need
each_need (suc (suc f)) l = absurd (omega arith)

-- no other local is there
only_local : (f l : ℕ) → l < length (func_at program f).locals → ◌≡◌ {A = ℕ × ℕ} (f, l) (0, 0)
only_local zero zero h = refl
only_local zero (suc l) h = absurd (omega arith)
only_local (suc zero) l h = absurd (omega arith)
only_local (suc (suc f)) l h = absurd (omega arith)

are_needs : AreNeeds program sets true needs
are_needs = record {
  count = refl;
  funcs = each_need;
  sites = (record { func = refl; block = refl; inst = refl; targets = one_item nat_cmp (CallsAt program sets 0 (here program 0 0 1)) 1 refl (λ g w. w) }, tt);
  lendable = one_item compare_locals (λ x. IsLendable program sets true x.0 x.1) (0, 0) (record { there = omega arith; cause = OthersWrite 1 (λ e. cc) (0, 2, refl) }) (λ x h. only_local x.0 x.1 h.there);
  kind = refl;
}

pub are_its_needs : AreItsNeeds
are_its_needs = record { least = record { closed = record { code = code; cells = cells }; least = least }; by_sets = are_needs }

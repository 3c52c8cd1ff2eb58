-- The needs are exactly what the sets give.
use Rattle.std.proofs.Common.{◌≡◌, ℕ, zero, suc, ◌<◌, Bool, true, false, length, refl, arith}
use Rattle.std.specs.Prelude.{◌⊎◌}
use mathlib.Core.Logic.{inl, inr}
use Rattle.std.specs.Ordering.{nat_cmp}
use Rattle.ir_model.specs.declared.object.ObjId.TheVariants.{Periph, Local}
use Rattle.ir_model.specs.Resolved.{here, func_at}
use Rattle.ir_model.specs.State.{Object, PeriphObject, LocalObject}
use Rattle.ir_model.specs.Objects.{object_by, compare_objects}
use Rattle.ir_laws.specs.Sets.{Register, ReadsAt, WritesAt, CallsAt, IsRead, IsWritten}
use Rattle.plan_model.specs.Calls.{IsCallee}
use Rattle.plan_model.specs.Lendable.{IsLendable, OthersWrite, compare_locals}
use Rattle.plan_model.specs.Needs.{IsWritable, IsData, IsNeedOf, need_of, AreNeeds}
use Rattle.example_plan.proofs.OneItem.{one_item, no_item, number_of_periph}
use Rattle.example_plan.specs.LentLocal.{program, sets, needs, HasNeeds}
use Rattle.ir_laws.proofs.Objects.{same_id}

-- ---- what each function writes, reads and calls

local_of_main : (o : Object) → sets (Register 0 0) o ≡ true → o ≡ LocalObject 0 0
local_of_main (LocalObject zero zero) e = refl
local_of_main _ e = cc

timer : (o : Object) → sets (Register 0 1) o ≡ true → o ≡ PeriphObject 0
timer (PeriphObject zero) e = refl
timer _ e = cc

lent_local : (o : Object) → sets (Register 2 0) o ≡ true → o ≡ LocalObject 0 0
lent_local (LocalObject zero zero) e = refl
lent_local _ e = cc

main_writes : (o : Object) (b k : ℕ) → WritesAt sets 0 (here program 0 b k) o → o ≡ PeriphObject 0
main_writes o zero (suc (suc (suc (suc zero)))) w = timer o w
main_writes o _ _ w = absurd w

main_reads : (o : Object) (b k : ℕ) → ReadsAt sets 0 (here program 0 b k) o → o ≡ LocalObject 0 0
main_reads o zero (suc (suc zero)) w = local_of_main o w
main_reads o zero (suc (suc (suc (suc zero)))) w = absurd w
main_reads o _ _ w = absurd w

main_calls : (g b k : ℕ) → CallsAt program sets 0 (here program 0 b k) g → g ≡ 1
main_calls g zero (suc zero) w = w
main_calls g zero (suc (suc (suc (suc zero)))) w = absurd w
main_calls g _ _ w = absurd w

between_writes : (o : Object) (b k : ℕ) → WritesAt sets 1 (here program 1 b k) o → ⊥
between_writes o zero zero w = w
between_writes o _ _ w = w

between_reads : (o : Object) (b k : ℕ) → ReadsAt sets 1 (here program 1 b k) o → ⊥
between_reads o zero zero w = w
between_reads o _ _ w = w

between_calls : (g b k : ℕ) → CallsAt program sets 1 (here program 1 b k) g → g ≡ 2
between_calls g zero zero w = w
between_calls g _ _ w = absurd w

writer_writes : (o : Object) (b k : ℕ) → WritesAt sets 2 (here program 2 b k) o → o ≡ LocalObject 0 0
writer_writes o zero (suc zero) w = lent_local o w
writer_writes o _ _ w = absurd w

writer_reads : (o : Object) (b k : ℕ) → ReadsAt sets 2 (here program 2 b k) o → ⊥
writer_reads o zero (suc zero) w = w
writer_reads o _ _ w = w

writer_calls : (g b k : ℕ) → CallsAt program sets 2 (here program 2 b k) g → ⊥
writer_calls g zero (suc zero) w = w
writer_calls g _ _ w = w

-- ---- the needs of each function

main_need : IsNeedOf program sets 0 (need_of (needs false) 0)
main_need = record {
  written = one_item compare_objects (λ o. IsWritable program (object_by o) × IsWritten program sets 0 (object_by o)) (Periph 0) (tt, (0, 4, refl)) (λ o w. same_id o (Periph 0) (main_writes (object_by o) w.1.0 w.1.1 w.1.2));
  read = one_item compare_objects (λ o. IsData (object_by o) × IsRead program sets 0 (object_by o)) (Local 0 0) (tt, (0, 2, refl)) (λ o w. same_id o (Local 0 0) (main_reads (object_by o) w.1.0 w.1.1 w.1.2));
  periphs = one_item nat_cmp (λ q. IsWritten program sets 0 (PeriphObject q) ⊎ IsRead program sets 0 (PeriphObject q)) 0 (inl (0, 4, refl)) only;
  callees = one_item nat_cmp (IsCallee program sets 0) 1 (0, 1, refl) (λ g w. main_calls g w.0 w.1 w.2);
}
  where
    only : (q : ℕ) → IsWritten program sets 0 (PeriphObject q) ⊎ IsRead program sets 0 (PeriphObject q) → q ≡ 0
    only q (inl w) = number_of_periph q 0 (main_writes (PeriphObject q) w.0 w.1 w.2)
    only q (inr w) = let e = main_reads (PeriphObject q) w.0 w.1 w.2 in cc

between_need : IsNeedOf program sets 1 (need_of (needs false) 1)
between_need = record {
  written = no_item compare_objects (λ o. IsWritable program (object_by o) × IsWritten program sets 1 (object_by o)) (λ o w. between_writes (object_by o) w.1.0 w.1.1 w.1.2);
  read = no_item compare_objects (λ o. IsData (object_by o) × IsRead program sets 1 (object_by o)) (λ o w. between_reads (object_by o) w.1.0 w.1.1 w.1.2);
  periphs = no_item nat_cmp (λ q. IsWritten program sets 1 (PeriphObject q) ⊎ IsRead program sets 1 (PeriphObject q)) none;
  callees = one_item nat_cmp (IsCallee program sets 1) 2 (0, 0, refl) (λ g w. between_calls g w.0 w.1 w.2);
}
  where
    none : (q : ℕ) → IsWritten program sets 1 (PeriphObject q) ⊎ IsRead program sets 1 (PeriphObject q) → ⊥
    none q (inl w) = between_writes (PeriphObject q) w.0 w.1 w.2
    none q (inr w) = between_reads (PeriphObject q) w.0 w.1 w.2

writer_need : IsNeedOf program sets 2 (need_of (needs false) 2)
writer_need = record {
  written = one_item compare_objects (λ o. IsWritable program (object_by o) × IsWritten program sets 2 (object_by o)) (Local 0 0) (tt, (0, 1, refl)) (λ o w. same_id o (Local 0 0) (writer_writes (object_by o) w.1.0 w.1.1 w.1.2));
  read = no_item compare_objects (λ o. IsData (object_by o) × IsRead program sets 2 (object_by o)) (λ o w. writer_reads (object_by o) w.1.0 w.1.1 w.1.2);
  periphs = no_item nat_cmp (λ q. IsWritten program sets 2 (PeriphObject q) ⊎ IsRead program sets 2 (PeriphObject q)) none;
  callees = no_item nat_cmp (IsCallee program sets 2) (λ g w. writer_calls g w.0 w.1 w.2);
}
  where
    none : (q : ℕ) → IsWritten program sets 2 (PeriphObject q) ⊎ IsRead program sets 2 (PeriphObject q) → ⊥
    none q (inl w) = let e = writer_writes (PeriphObject q) w.0 w.1 w.2 in cc
    none q (inr w) = writer_reads (PeriphObject q) w.0 w.1 w.2

-- ---- all of it

each_need : (closed : Bool) (f : ℕ) → f < 3 → IsNeedOf program sets f (need_of (needs closed) f)
each_need closed zero l = main_need
each_need closed (suc zero) l = between_need
each_need closed (suc (suc zero)) l = writer_need
each_need closed (suc (suc (suc f))) l = absurd (omega arith)

-- no other local is there
only_local : (f l : ℕ) → l < length (func_at program f).locals → ◌≡◌ {A = ℕ × ℕ} (f, l) (0, 0)
only_local zero zero h = refl
only_local zero (suc l) h = absurd (omega arith)
only_local (suc zero) l h = absurd (omega arith)
only_local (suc (suc zero)) l h = absurd (omega arith)
only_local (suc (suc (suc f))) l h = absurd (omega arith)

all_needs : (closed : Bool) → AreNeeds program sets closed (needs closed)
all_needs closed = record {
  count = refl;
  funcs = each_need closed;
  sites = (
    record { func = refl; block = refl; inst = refl; targets = one_item nat_cmp (CallsAt program sets 0 (here program 0 0 1)) 1 refl (λ g w. w) },
    (record { func = refl; block = refl; inst = refl; targets = one_item nat_cmp (CallsAt program sets 1 (here program 1 0 0)) 2 refl (λ g w. w) }, tt),
  );
  lendable = one_item compare_locals (λ x. IsLendable program sets closed x.0 x.1) (0, 0) (record { there = omega arith; cause = OthersWrite 2 (λ e. cc) (0, 1, refl) }) (λ x h. only_local x.0 x.1 h.there);
  kind = refl;
}

pub has_needs : HasNeeds
has_needs = record { open_board = all_needs false; closed_board = all_needs true }

-- The sets are closed, and contained in all that are.
use Rattle.std.proofs.Common.{◌≡◌, ℕ, zero, suc, [], ◌∷◌, true, get_or, refl, arith}
use Rattle.ir_model.specs.Resolved.{Number, global_at, here, register_type}
use Rattle.ir_model.specs.State.{Object, GlobalObject, PeriphObject, LocalObject}
use Rattle.ir_laws.specs.Sets.{Node, Register, Content, ObjectSets, Flows, HereFlows, IsOf, Closed}
use Rattle.example_plan.specs.LentLocal.{program, sets, HasLeastSets}
use Rattle.example_plan.proofs.OneItem.{one_argument}

main_to_between : (o : Object) → sets (Register 0 0) o ≡ true → sets (Register 1 0) o ≡ true
main_to_between (LocalObject zero zero) e = refl
main_to_between _ e = cc

between_to_writer : (o : Object) → sets (Register 1 0) o ≡ true → sets (Register 2 0) o ≡ true
between_to_writer (LocalObject zero zero) e = refl
between_to_writer _ e = cc

code : (f b k : ℕ) → HereFlows program sets f (here program f b k)
code zero zero zero = refl
code zero zero (suc zero) = record { arguments = one_argument (λ k. Flows sets (register_type program 1 k) (Register 0 (get_or (0 ∷ []) k 0)) (Register 1 k)) (λ c. main_to_between); outcome = tt }
code zero zero (suc (suc zero)) = λ c. cc
code zero zero (suc (suc (suc zero))) = refl
code zero zero (suc (suc (suc (suc zero)))) = λ c. cc
code zero zero (suc (suc (suc (suc (suc k))))) = tt
code (suc zero) zero zero = record { arguments = one_argument (λ k. Flows sets (register_type program 2 k) (Register 1 (get_or (0 ∷ []) k 0)) (Register 2 k)) (λ c. between_to_writer); outcome = tt }
code (suc zero) zero (suc k) = tt
code (suc (suc zero)) zero zero = tt
code (suc (suc zero)) zero (suc zero) = λ c. cc
code (suc (suc zero)) zero (suc (suc k)) = tt
code zero (suc b) k = tt
code (suc zero) (suc b) k = tt
code (suc (suc zero)) (suc b) k = tt
code (suc (suc (suc n))) b k = tt

cells : (g k : ℕ) → IsOf (sets (Content (GlobalObject g))) (get_or (global_at program g).init k (Number 0))
cells g zero = tt
cells g (suc k) = tt

-- the pointer goes from `main` to the second function, and from there to the third
least : (Q : ObjectSets) → Closed program Q → (n : Node) (o : Object) → sets n o ≡ true → Q n o ≡ true
least Q h (Register zero zero) (LocalObject zero zero) e = h.code 0 0 0
least Q h (Register zero (suc zero)) (PeriphObject zero) e = h.code 0 0 3
least Q h (Register (suc zero) zero) (LocalObject zero zero) e = (h.code 0 0 1).arguments 0 (omega arith) refl (LocalObject 0 0) (h.code 0 0 0)
least Q h (Register (suc (suc zero)) zero) (LocalObject zero zero) e =
    (h.code 1 0 0).arguments 0 (omega arith) refl (LocalObject 0 0) ((h.code 0 0 1).arguments 0 (omega arith) refl (LocalObject 0 0) (h.code 0 0 0))
least Q h _ _ e = cc

pub has_least_sets : HasLeastSets
has_least_sets = record { closed = record { code = code; cells = cells }; least = least }

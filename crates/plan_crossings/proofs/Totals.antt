-- The bytes of functions, each filled up: of one more, and of those of a compartment.
use Rattle.std.proofs.Common.{◌≡◌, ℕ, suc, ◌+◌, ◌<◌, ◌≤◌, Bool, true, false, List, [], ◌∷◌, ◌++◌, cond, length, get_or, nat_eq, refl, ap, arith}
use Rattle.ir_model.specs.Resolved.{Program}
use Rattle.code_model.specs.CompartmentCode.{CodeGroups, members_from, filled_size, total_size, size_of}
use Rattle.plan_crossings.specs.Filled.{filled_total}

pub total-append : (zs fs : List ℕ) (k : ℕ) → filled_total zs (fs ++ k ∷ []) ≡ filled_total zs fs + filled_size (get_or zs k 0)
total-append zs [] k = omega arith
total-append zs (f ∷ fs) k = let h = total-append zs fs k in omega arith

-- where the list has the size of each function, the total is that of the definitions
module _ (p : Program) (groups : CodeGroups) (zs : List ℕ) (n : ℕ) (one_size : (f : ℕ) → f < n → get_or zs f 0 ≡ size_of p groups f) where
  pub totals : (f : ℕ) (ds : List ℕ) (c : ℕ) → f + length ds ≤ n → filled_total zs (members_from f ds c) ≡ total_size p groups (members_from f ds c)
  totals f [] c l = refl
  totals f (d ∷ ds) c l =
      let h = totals (suc f) ds c (omega arith) in
      let e = one_size f (omega arith) in
      by (nat_eq d c) h (ap filled_size e)
    where
      by : (b : Bool) → filled_total zs (members_from (suc f) ds c) ≡ total_size p groups (members_from (suc f) ds c) → filled_size (get_or zs f 0) ≡ filled_size (size_of p groups f) →
          filled_total zs (cond b (f ∷ members_from (suc f) ds c) (members_from (suc f) ds c)) ≡ total_size p groups (cond b (f ∷ members_from (suc f) ds c) (members_from (suc f) ds c))
      by true h e = omega (arith, h, e)
      by false h e = h

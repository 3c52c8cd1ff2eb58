use Rattle.std.proofs.Common.{◌≡◌, ℕ, zero, suc, ◌+◌, ◌≤◌, List, [], ◌∷◌, ◌++◌, take, refl, arith, ◌%◌}
use Rattle.machine_thumb_asm.specs.declared.item.Item.{Item}
use Rattle.machine_thumb_asm.specs.Assembly.{total, branch_size}
use Rattle.machine_thumb_asm.specs.declared.item.BranchKind.{BranchKind}
use Rattle.machine_thumb_asm.specs.declared.item.BranchKind.TheVariants.{Cond, Short, Long, Link}

pub total-append : (xs ys : List Item) → total (xs ++ ys) ≡ total xs + total ys
total-append [] ys = omega arith
total-append (x ∷ xs) ys = let h = total-append xs ys in omega arith

pub branch_even : (kind : BranchKind) → branch_size kind % 2 ≡ 0
branch_even (Cond c) = refl
branch_even Short = refl
branch_even Long = refl
branch_even Link = refl

pub total_within : (is : List Item) (k : ℕ) → total (take k is) ≤ total is
total_within [] zero = omega arith
total_within [] (suc k) = omega arith
total_within (i ∷ is) zero = omega arith
total_within (i ∷ is) (suc k) = let h = total_within is k in omega arith

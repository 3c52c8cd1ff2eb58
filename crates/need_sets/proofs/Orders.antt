-- The derived order of objects is that of their kinds and numbers.
use Rattle.std.proofs.Common.{◌≡◌, List, [], ◌∷◌, refl, sym, ◌∙◌}
use Rattle.std.specs.declared.cmp.Ordering.{Ordering}
use Rattle.std.specs.declared.cmp.Ordering.TheVariants.{Less, Equal, Greater}
use Rattle.std.specs.List.Sorted.{IsStrictlySortedBy}
use Rattle.std.specs.List.{AllByRecursion}
use Rattle.std.specs.Ordering.{nat_cmp, ordering_then}
use Rattle.ir_model.specs.declared.object.ObjId.{ObjId}
use Rattle.ir_model.specs.declared.object.ObjId.TheVariants.{Global, Periph, Local, Func}
use Rattle.ir_model.specs.Objects.{compare_objects}
use Rattle.ir_model.specs.contracts.object.ObjIdOrd.TheImpl as order
use Rattle.plan_model.specs.Lists.{ListsExactly}

abbrev derived : ObjId → ObjId → Ordering
derived = order.cmp-value.it

then_equal : (o : Ordering) → ordering_then o Equal ≡ o
then_equal Less = refl
then_equal Equal = refl
then_equal Greater = refl

same_order : (x y : ObjId) → derived x y ≡ compare_objects x y
same_order (Global a) (Global b) = sym (then_equal (nat_cmp a b))
same_order (Periph a) (Periph b) = sym (then_equal (nat_cmp a b))
same_order (Local f a) (Local g b) = refl
same_order (Func a) (Func b) = sym (then_equal (nat_cmp a b))
same_order (Global a) (Periph b) = refl
same_order (Global a) (Local f b) = refl
same_order (Global a) (Func b) = refl
same_order (Periph a) (Global b) = refl
same_order (Periph a) (Local f b) = refl
same_order (Periph a) (Func b) = refl
same_order (Local f a) (Global b) = refl
same_order (Local f a) (Periph b) = refl
same_order (Local f a) (Func b) = refl
same_order (Func a) (Global b) = refl
same_order (Func a) (Periph b) = refl
same_order (Func a) (Local f b) = refl

all_by : (x : ObjId) (xs : List ObjId) → AllByRecursion (λ y. derived x y ≡ Less) xs → AllByRecursion (λ y. compare_objects x y ≡ Less) xs
all_by x [] h = h
all_by x (y ∷ ys) h = (sym (same_order x y) ∙ h.0, all_by x ys h.1)

sorted_by : (xs : List ObjId) → IsStrictlySortedBy derived xs → IsStrictlySortedBy compare_objects xs
unfolding IsStrictlySortedBy
sorted_by [] h = h
sorted_by (x ∷ xs) h = (all_by x xs h.0, sorted_by xs h.1)

pub in_order : (P : ObjId → Type 0) (xs : List ObjId) → ListsExactly derived P xs → ListsExactly compare_objects P xs
in_order P xs e = record { rising = sorted_by xs e.rising; each = e.each; all = e.all }

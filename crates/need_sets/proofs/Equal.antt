-- The derived test of objects tells whether they are equal.
use Rattle.std.proofs.Common.{◌≡◌, Bool, true, refl, sym, ◌∙◌, subst}
use Rattle.std.specs.Bool.{Decides}
use Rattle.ir_model.specs.declared.object.ObjId.{ObjId}
use Rattle.ir_model.specs.declared.object.ObjId.TheVariants.{Global, Periph, Local, Func}
use Rattle.ir_model.specs.contracts.object.ObjIdPartialEq.TheImpl as equality
use Rattle.ir_model.specs.Objects.{object_by}
use Rattle.ir_laws.proofs.Objects.{same_id as object_by_is}
use Rattle.need_sets.specs.Sets.{same_object}
use Rattle.need_sets.proofs.Members.{same_is, same_self}

abbrev derived : ObjId → ObjId → Bool
derived = equality.eq-value.it

same_tests : (a b : ObjId) → derived a b ≡ same_object (object_by a) (object_by b)
same_tests (Global a) (Global b) = refl
same_tests (Periph a) (Periph b) = refl
same_tests (Local f a) (Local g b) = refl
same_tests (Func a) (Func b) = refl
same_tests (Global a) (Periph b) = refl
same_tests (Global a) (Local f b) = refl
same_tests (Global a) (Func b) = refl
same_tests (Periph a) (Global b) = refl
same_tests (Periph a) (Local f b) = refl
same_tests (Periph a) (Func b) = refl
same_tests (Local f a) (Global b) = refl
same_tests (Local f a) (Periph b) = refl
same_tests (Local f a) (Func b) = refl
same_tests (Func a) (Global b) = refl
same_tests (Func a) (Periph b) = refl
same_tests (Func a) (Local f b) = refl

pub equal_tests : (a b : ObjId) → Decides (derived a b) (a ≡ b)
equal_tests a b = (
  λ e. object_by_is a b (same_is (object_by a) (object_by b) (sym (same_tests a b) ∙ e)),
  λ e. same_tests a b ∙ subst (λ (x : ObjId). same_object (object_by a) (object_by x) ≡ true) e (same_self (object_by a)),
)

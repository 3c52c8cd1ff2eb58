-- The compartment of a function may reach what its needs list.
use Rattle.std.proofs.Common.{◌≡◌, ℕ, ◌<◌, Bool, true, ◌&&◌, List, length, nat_eq, refl, ap, ◌∙◌, subst, eq-eqb}
use Rattle.std.specs.List.{list_any}
use Rattle.std.specs.Ordering.{eq_by_cmp}
use Rattle.std.proofs.lemmas.Cmp.{eq_by_cmp_equiv}
use Rattle.std.proofs.lemmas.List.Folds.{list_any-from_Any}
use Rattle.ir_model.specs.declared.object.ObjId.{ObjId}
use Rattle.ir_model.specs.declared.object.ObjId.TheVariants.{Global, Periph, Local, Func}
use Rattle.ir_model.specs.State.{Object}
use Rattle.ir_model.specs.Objects.{object_by, compare_objects}
use Rattle.ir_model.proofs.ObjectOrder.{objects_total}
use Rattle.plan_model.specs.declared.groups.Groups.{Groups}
use Rattle.plan_model.specs.Lists.{numbers_below}
use Rattle.plan_model.specs.Groups.{compartment_of, functions_of}
use Rattle.plan_model.specs.Needs.{has_object}
use Rattle.need_laws.specs.Reached.{IsListed}
use Rattle.need_laws.proofs.Listed.{id_of}
use Rattle.std.proofs.lemmas.Bool.{and_from as both}
use Rattle.base_laws.proofs.Lists.{any_kept as any_filtered}
use Rattle.plan_model.proofs.Numbers.{one_passes}

-- one function of a compartment that passes is enough
pub one_of : (g : Groups) (test : ℕ → Bool) (h : ℕ) → h < length g.of → test h ≡ true → list_any test (functions_of g (compartment_of g h)) ≡ true
one_of g test h l e =
    any_filtered test (λ x. nat_eq (compartment_of g x) (compartment_of g h)) (numbers_below (length g.of))
    ∙ one_passes (λ x. nat_eq (compartment_of g x) (compartment_of g h) && test x) h (length g.of) l
    (both (nat_eq (compartment_of g h) (compartment_of g h)) (test h) (eq-eqb (compartment_of g h) (compartment_of g h) refl) e)

-- ---- objects

same_object : (x : ObjId) → x ≡ id_of (object_by x)
same_object (Global x) = refl
same_object (Periph q) = refl
same_object (Local h l) = refl
same_object (Func h) = refl

itself : (x : ObjId) → eq_by_cmp compare_objects x x ≡ true
itself x = (eq_by_cmp_equiv objects_total).refl x

pub has_listed : (os : List ObjId) (o : Object) → IsListed os o → has_object os (id_of o) ≡ true
has_listed os o i =
    let x : ObjId = i.0 in
    let e : x ≡ id_of o = same_object x ∙ ap id_of i.2 in
    list_any-from_Any (λ y. eq_by_cmp compare_objects y (id_of o)) os (i.1.0, x, i.1.1, i.1.2, subst (λ y. eq_by_cmp compare_objects x y ≡ true) e (itself x))

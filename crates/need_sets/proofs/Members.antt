-- A list in order has exactly its objects.
use Rattle.std.proofs.Common.{◌≡◌, ℕ, zero, suc, ◌<◌, Bool, true, false, ◌||◌, ◌&&◌, List, [], ◌∷◌, length, get_or, refl, sym, ap, ◌∙◌, subst, arith, nat_eq, inl, inr, Contains, Option, Some, None}
use Rattle.std.specs.List.{list_any}
use Rattle.std.specs.List.Sorted.{IsStrictlySortedBy}
use Rattle.std.proofs.lemmas.Bool.{false≢true, eqb-true, eq-eqb, or_right, or_cases}
use Rattle.ir_model.specs.declared.object.ObjId.{ObjId}
use Rattle.ir_model.specs.Objects.{object_by, compare_objects}
use Rattle.ir_model.specs.State.{Object, GlobalObject, PeriphObject, LocalObject, FunctionObject}
use Rattle.plan_model.specs.Lists.{ListsExactly}
use Rattle.ir_laws.specs.Sets.{Node}
use Rattle.need_sets.specs.Numbers.{GroupCounts, node_number}
use Rattle.need_sets.specs.Sets.{Sets, same_object, row_at, row_of, sets_of}
use Rattle.ir_laws.proofs.Objects.{same_id as object_by_is}

and_left : (a b : Bool) → a && b ≡ true → a ≡ true
and_left true b e = refl
and_left false b e = e

and_right : (a b : Bool) → a && b ≡ true → b ≡ true
and_right true b e = e
and_right false b e = absurd (false≢true e)

pub same_is : (a b : Object) → same_object a b ≡ true → a ≡ b
same_is (GlobalObject g) (GlobalObject h) e = ap GlobalObject (eqb-true g h e)
same_is (PeriphObject g) (PeriphObject h) e = ap PeriphObject (eqb-true g h e)
same_is (LocalObject f l) (LocalObject g m) e =
    let p = eqb-true f g (and_left (nat_eq f g) (nat_eq l m) e) in
    let q = eqb-true l m (and_right (nat_eq f g) (nat_eq l m) e) in cc
same_is (FunctionObject f) (FunctionObject g) e = ap FunctionObject (eqb-true f g e)
same_is (GlobalObject g) (PeriphObject h) e = cc
same_is (GlobalObject g) (LocalObject h l) e = cc
same_is (GlobalObject g) (FunctionObject h) e = cc
same_is (PeriphObject g) (GlobalObject h) e = cc
same_is (PeriphObject g) (LocalObject h l) e = cc
same_is (PeriphObject g) (FunctionObject h) e = cc
same_is (LocalObject g k) (GlobalObject h) e = cc
same_is (LocalObject g k) (PeriphObject h) e = cc
same_is (LocalObject g k) (FunctionObject h) e = cc
same_is (FunctionObject g) (GlobalObject h) e = cc
same_is (FunctionObject g) (PeriphObject h) e = cc
same_is (FunctionObject g) (LocalObject h l) e = cc

pub same_self : (a : Object) → same_object a a ≡ true
same_self (GlobalObject g) = eq-eqb g g refl
same_self (PeriphObject g) = eq-eqb g g refl
same_self (LocalObject f l) = subst (λ b. b && nat_eq l l ≡ true) (sym (eq-eqb f f refl)) (eq-eqb l l refl)
same_self (FunctionObject g) = eq-eqb g g refl

abbrev among : List ObjId → ObjId → Bool
among xs o = list_any (λ x. same_object (object_by x) (object_by o)) xs

at_among : (xs : List ObjId) (o : ObjId) (k : ℕ) → k < length xs → get_or xs k o ≡ o → among xs o ≡ true
at_among [] o k l e = absurd (omega arith)
at_among (x ∷ xs) o zero l e = subst (λ y. same_object (object_by y) (object_by o) || among xs o ≡ true) (sym e) (ap (λ b. b || among xs o) (same_self (object_by o)))
at_among (x ∷ xs) o (suc k) l e = or_right (same_object (object_by x) (object_by o)) (among xs o) (at_among xs o k (omega arith) e)

among_at : (xs : List ObjId) (o : ObjId) → among xs o ≡ true → Contains xs o
among_at [] o e = cc
among_at (x ∷ xs) o e = elim (or_cases (same_object (object_by x) (object_by o)) (among xs o) e) [ inl h ↦ (0, omega arith, object_by_is x o (same_is (object_by x) (object_by o) h)) | inr h ↦ later (among_at xs o h) ]
  where
    later : Contains xs o → Contains (x ∷ xs) o
    later h = (suc h.0, omega (arith, h.1), h.2)

pub exactly : (xs : List ObjId) → IsStrictlySortedBy compare_objects xs → ListsExactly compare_objects (λ o. list_any (λ x. same_object (object_by x) (object_by o)) xs ≡ true) xs
exactly xs s = record { rising = s; each = λ x h. at_among xs x h.0 h.1 h.2; all = λ x e. among_at xs x e }

pub row_exactly : (s : Sets) (n : Node) (xs : List ObjId) → xs ≡ row_of s n → IsStrictlySortedBy compare_objects xs → ListsExactly compare_objects (λ o. sets_of s n (object_by o) ≡ true) xs
row_exactly s n xs e h = subst (λ ys. ListsExactly compare_objects (λ o. list_any (λ x. same_object (object_by x) (object_by o)) ys ≡ true) xs) e (exactly xs h)

pub of_some : (s : Sets) (c : GroupCounts) (n : Node) (r : Option ℕ) (k : ℕ) (xs : List ObjId) → c ≡ s.numbers → r ≡ node_number c n → r ≡ Some k → xs ≡ get_or s.rows k [] → IsStrictlySortedBy compare_objects xs → ListsExactly compare_objects (λ o. sets_of s n (object_by o) ≡ true) xs
of_some s c n r k xs e f g q h = row_exactly s n xs (q ∙ ap (row_at s.rows) (sym g ∙ (f ∙ ap (λ d. node_number d n) e))) h

pub of_none : (s : Sets) (c : GroupCounts) (n : Node) (r : Option ℕ) → c ≡ s.numbers → r ≡ node_number c n → r ≡ None → ListsExactly compare_objects (λ o. sets_of s n (object_by o) ≡ true) []
unfolding IsStrictlySortedBy
of_none s c n r e f g = row_exactly s n [] (ap (row_at s.rows) (sym g ∙ (f ∙ ap (λ d. node_number d n) e))) tt

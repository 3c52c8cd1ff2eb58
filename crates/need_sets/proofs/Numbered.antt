-- What has a number has it alone, and objects at the places of a list's numbers are those whose numbers the list has.
use Rattle.std.proofs.Common.{◌≡◌, ℕ, ◌+◌, ◌<◌, Bool, true, List, map, get_or, length, Option, Some, None, refl, sym, ap, ◌∙◌, subst, arith, nat_lt, nat_eq, Contains}
use Rattle.std.specs.List.{list_any}
use Rattle.std.proofs.lemmas.Bool.{false≢true, ltb-true, eqb-true, eq-eqb}
use Rattle.std.proofs.lemmas.List.{length-map, get_or-map, get_or_default}
use Rattle.std.proofs.lemmas.List.Folds.{Any-from_list_any, list_any_at}
use Rattle.ir_model.specs.declared.object.ObjId.{ObjId}
use Rattle.ir_model.specs.declared.object.ObjId.TheVariants.{Global}
use Rattle.ir_model.specs.Objects.{object_by, compare_objects}
use Rattle.ir_model.specs.State.{Object, GlobalObject, PeriphObject, LocalObject, FunctionObject}
use Rattle.plan_model.specs.Lists.{ListsExactly}
use Rattle.need_numbers.specs.Groups.{place_of}
use Rattle.need_numbers.proofs.GroupPlaces.{alone}
use Rattle.need_sets.specs.Numbers.{GroupCounts, object_number, AreByNumber}
use Rattle.need_sets.specs.Sets.{same_object}
use Rattle.need_sets.specs.Pairs.{has_number, object_at}
use Rattle.need_sets.proofs.Members.{same_is, same_self}
use Rattle.base_laws.proofs.Tests.{same_tests as same_truth}
use Rattle.base_laws.proofs.Options.{guarded}

local_at : (c : GroupCounts) (f l k : ℕ) → object_number c (LocalObject f l) ≡ Some k → (f < c.funcs) × (place_of c.objects (2 + f) l ≡ Some k)
local_at c f l k e =
    let h = guarded (nat_lt f c.funcs) (place_of c.objects (2 + f) l) k e in (ltb-true f c.funcs h.0, h.1)

same_number : (c : GroupCounts) (a b : Object) (k : ℕ) → object_number c a ≡ Some k → object_number c b ≡ Some k → a ≡ b
same_number c (GlobalObject g) (GlobalObject h) k e f = ap GlobalObject (alone c.objects 0 0 g h k e f).1
same_number c (GlobalObject g) (PeriphObject h) k e f = let r = (alone c.objects 0 1 g h k e f).0 in absurd (omega arith)
same_number c (GlobalObject g) (LocalObject h m) k e f = let r = (alone c.objects 0 (2 + h) g m k e (local_at c h m k f).1).0 in absurd (omega arith)
same_number c (GlobalObject g) (FunctionObject h) k e f = let r = (alone c.objects 0 (2 + c.funcs) g h k e f).0 in absurd (omega arith)
same_number c (PeriphObject g) (GlobalObject h) k e f = let r = (alone c.objects 1 0 g h k e f).0 in absurd (omega arith)
same_number c (PeriphObject g) (PeriphObject h) k e f = ap PeriphObject (alone c.objects 1 1 g h k e f).1
same_number c (PeriphObject g) (LocalObject h m) k e f = let r = (alone c.objects 1 (2 + h) g m k e (local_at c h m k f).1).0 in absurd (omega arith)
same_number c (PeriphObject g) (FunctionObject h) k e f = let r = (alone c.objects 1 (2 + c.funcs) g h k e f).0 in absurd (omega arith)
same_number c (LocalObject g l) (GlobalObject h) k e f = let r = (alone c.objects (2 + g) 0 l h k (local_at c g l k e).1 f).0 in absurd (omega arith)
same_number c (LocalObject g l) (PeriphObject h) k e f = let r = (alone c.objects (2 + g) 1 l h k (local_at c g l k e).1 f).0 in absurd (omega arith)
same_number c (LocalObject g l) (LocalObject h m) k e f =
    let r = alone c.objects (2 + g) (2 + h) l m k (local_at c g l k e).1 (local_at c h m k f).1 in
    let p : 2 + g ≡ 2 + h = r.0 in
    let q : g ≡ h = omega arith in
    let s : l ≡ m = r.1 in cc
same_number c (LocalObject g l) (FunctionObject h) k e f =
    let b = local_at c g l k e in
    let r = (alone c.objects (2 + g) (2 + c.funcs) l h k b.1 f).0 in
    let s = b.0 in absurd (omega arith)
same_number c (FunctionObject g) (GlobalObject h) k e f = let r = (alone c.objects (2 + c.funcs) 0 g h k e f).0 in absurd (omega arith)
same_number c (FunctionObject g) (PeriphObject h) k e f = let r = (alone c.objects (2 + c.funcs) 1 g h k e f).0 in absurd (omega arith)
same_number c (FunctionObject g) (LocalObject h m) k e f =
    let b = local_at c h m k f in
    let r = (alone c.objects (2 + c.funcs) (2 + h) g m k e b.1).0 in
    let s = b.0 in absurd (omega arith)
same_number c (FunctionObject g) (FunctionObject h) k e f = ap FunctionObject (alone c.objects (2 + c.funcs) (2 + c.funcs) g h k e f).1

abbrev lists : List ObjId → Object → Bool
lists xs o = list_any (λ x. same_object (object_by x) o) xs

abbrev Below : List ℕ → List ObjId → Type 0
Below js by_number = (k : ℕ) → k < length js → get_or js k 0 < length by_number

abbrev Named : List ObjId → List ℕ → List ObjId → Type 0
Named by_number js xs = ListsExactly compare_objects (Contains (map (object_at by_number) js)) xs

-- an object at the place of a number of the list has this number
numbered : (c : GroupCounts) (by_number : List ObjId) (js : List ℕ) → AreByNumber c by_number → Below js by_number → (x : ObjId) → Contains (map (object_at by_number) js) x → has_number js (object_number c (object_by x)) ≡ true
numbered c by_number js t below x h =
    let m = h.0 in
    let l : m < length js = let e = length-map js (object_at by_number) in let b = h.1 in omega arith in
    let j = get_or js m 0 in
    let e : object_at by_number j ≡ x = sym (get_or-map (object_at by_number) js m 0 x l) ∙ h.2 in
    let n : object_number c (object_by x) ≡ Some j = subst (λ y. object_number c (object_by y) ≡ Some j) e (t.each j (Global 0) (below m l)) in
    subst (λ (r : Option ℕ). has_number js r ≡ true) (sym n) (list_any_at (nat_eq j) js m 0 l (eq-eqb j j refl))

listed_has : (c : GroupCounts) (by_number : List ObjId) (js : List ℕ) (xs : List ObjId) → AreByNumber c by_number → Below js by_number → Named by_number js xs → (o : Object) → lists xs o ≡ true → has_number js (object_number c o) ≡ true
listed_has c by_number js xs t below e o h =
    let a = Any-from_list_any (λ x. same_object (object_by x) o) xs h in
    let x = a.1 in
    let s : object_by x ≡ o = same_is (object_by x) o a.4 in
    subst (λ (b : Object). has_number js (object_number c b) ≡ true) s (numbered c by_number js t below x (e.each x (a.0, a.2, a.3)))

found : (c : GroupCounts) (by_number : List ObjId) (js : List ℕ) (xs : List ObjId) → AreByNumber c by_number → Below js by_number → Named by_number js xs → (o : Object) (r : Option ℕ) → object_number c o ≡ r → has_number js r ≡ true → lists xs o ≡ true
found c by_number js xs t below e o None n h = absurd (false≢true h)
found c by_number js xs t below e o (Some j) n h =
    let a = Any-from_list_any (nat_eq j) js h in
    let m = a.0 in
    let l : m < length js = a.2 in
    let i : get_or js m 0 ≡ j = get_or_default js m 0 a.1 l ∙ (a.3 ∙ sym (eqb-true j a.1 a.4)) in
    let x = object_at by_number j in
    let b : j < length by_number = subst (λ k. k < length by_number) i (below m l) in
    let s : object_by x ≡ o = same_number c (object_by x) o j (t.each j (Global 0) b) n in
    let w : m < length (map (object_at by_number) js) = let q = length-map js (object_at by_number) in omega arith in
    let u : get_or (map (object_at by_number) js) m x ≡ x = get_or-map (object_at by_number) js m 0 x l ∙ ap (object_at by_number) i in
    let v = e.all x (m, w, u) in
    list_any_at (λ y. same_object (object_by y) o) xs v.0 x v.1 (subst (λ y. same_object (object_by y) o ≡ true) (sym v.2) (subst (λ b. same_object (object_by x) b ≡ true) s (same_self (object_by x))))

pub lists_numbers : (c : GroupCounts) (by_number : List ObjId) (js : List ℕ) (xs : List ObjId) → AreByNumber c by_number → Below js by_number → Named by_number js xs → (o : Object) → lists xs o ≡ has_number js (object_number c o)
lists_numbers c by_number js xs t below e o = same_truth (lists xs o) (has_number js (object_number c o)) (listed_has c by_number js xs t below e o) (found c by_number js xs t below e o (object_number c o) refl)

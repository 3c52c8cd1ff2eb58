-- From numbers back to nodes and objects.
use Rattle.std.proofs.Common.{◌≡◌, ℕ, zero, suc, ◌+◌, ◌-◌, ◌<◌, ◌≤◌, Bool, true, false, List, [], ◌∷◌, ◌++◌, take, map, get_or, length, Option, Some, None, refl, sym, ap, ◌∙◌, arith, nat_lt, nat_le, nat_eq, if◌then◌else◌, ◌⊎◌, inl, inr}
use Rattle.std.specs.List.{sum}
use Rattle.std.proofs.lemmas.Bool.{false≢true, leb-true, lt-ltb, le-ltb, le-leb, eq-eqb, ne_eqb, cases_lt}
use Rattle.std.proofs.lemmas.List.{length-map, get_or-map, get_or_past, get_or_append_left}
use Rattle.std.proofs.lemmas.List.Sums.{sum_by-cons}
use Rattle.ir_model.specs.Types.{U32}
use Rattle.ir_model.specs.Resolved.{Program, NumberedFunc, no_func, func_at, register_type}
use Rattle.ir_model.specs.State.{Object, GlobalObject, PeriphObject, LocalObject, FunctionObject}
use Rattle.ir_laws.specs.Sets.{Node, Register, Content, Outcome, carries}
use Rattle.need_numbers.specs.Groups.{place_of, start_of}
use Rattle.need_sets.specs.Numbers.{GroupCounts, object_number, node_number, content_number, object_groups, node_groups, numbering_of}
use Rattle.need_numbers.proofs.GroupPlaces.{some_is, none_is, place_at}
use Rattle.need_sets.specs.Rules.{callee_of}
use Rattle.base_laws.proofs.Options.{guarded}
use Rattle.base_laws.proofs.Lists.{sum_below as sum_more}

-- a group, and a place in it
pub record GroupPlace : Type 0 where
  pub group : ℕ
  pub item : ℕ

abbrev pub spot_at : List ℕ → ℕ → GroupPlace
spot_at [] k = record { group = 0; item = k }
spot_at (c ∷ cs) k = if nat_lt k c then record { group = 0; item = k } else record { group = suc (spot_at cs (k - c)).group; item = (spot_at cs (k - c)).item }

test_true : {X : Type 0} (b : Bool) (x y : X) → b ≡ true → (if b then x else y) ≡ x
test_true true x y e = refl
test_true false x y e = absurd (false≢true e)

test_false : {X : Type 0} (b : Bool) (x y : X) → b ≡ false → (if b then x else y) ≡ y
test_false true x y e = absurd (false≢true (sym e))
test_false false x y e = refl

spot_sum : (cs : List ℕ) (g i k : ℕ) → i < get_or cs g 0 → sum (take g cs) + i ≡ k → spot_at cs k ≡ record { group = g; item = i }
spot_sum [] g i k l e = absurd (omega arith)
spot_sum (c ∷ cs) zero i k l e =
    let q : k ≡ i = omega arith in
    test_true (nat_lt k c) (record { group = 0; item = k }) (record { group = suc (spot_at cs (k - c)).group; item = (spot_at cs (k - c)).item }) (lt-ltb k c (omega arith)) ∙ ap (λ (j : ℕ). record { group = 0; item = j }) q
spot_sum (c ∷ cs) (suc g) i k l e =
    let s = sum_by-cons (λ x. x) c (take g cs) in
    let q : sum (take g cs) + i ≡ k - c = omega arith in
    test_false (nat_lt k c) (record { group = 0; item = k }) (record { group = suc (spot_at cs (k - c)).group; item = (spot_at cs (k - c)).item }) (le-ltb k c (omega arith))
    ∙ ap (λ (x : GroupPlace). record { group = suc x.group; item = x.item }) (spot_sum cs g i (k - c) l q)

pub spot_is : (cs : List ℕ) (g i k : ℕ) → place_of cs g i ≡ Some k → spot_at cs k ≡ record { group = g; item = i }
spot_is cs g i k e = let h = place_at cs g i k e in spot_sum cs g i k h.0 h.1

abbrev pub object_in : (funcs : ℕ) → (group item : ℕ) → Object
object_in n zero i = GlobalObject i
object_in n (suc zero) i = PeriphObject i
object_in n (suc (suc f)) i = if nat_lt f n then LocalObject f i else FunctionObject i

abbrev pub object_from : GroupCounts → ℕ → Object
object_from c k = object_in c.funcs (spot_at c.objects k).group (spot_at c.objects k).item

abbrev pub node_in : GroupCounts → (group item : ℕ) → Node
node_in c g i = if nat_lt g c.funcs then Register g i else (if nat_eq g c.funcs then Content (object_from c i) else Outcome i)

abbrev pub node_from : GroupCounts → ℕ → Node
node_from c k = node_in c (spot_at c.nodes k).group (spot_at c.nodes k).item

object_spot : (c : GroupCounts) (g i k : ℕ) → place_of c.objects g i ≡ Some k → object_from c k ≡ object_in c.funcs g i
object_spot c g i k e = ap (λ (x : GroupPlace). object_in c.funcs x.group x.item) (spot_is c.objects g i k e)

node_spot : (c : GroupCounts) (g i k : ℕ) → place_of c.nodes g i ≡ Some k → node_from c k ≡ node_in c g i
node_spot c g i k e = ap (λ (x : GroupPlace). node_in c x.group x.item) (spot_is c.nodes g i k e)

pub object_back : (c : GroupCounts) (o : Object) (k : ℕ) → object_number c o ≡ Some k → object_from c k ≡ o
object_back c (GlobalObject g) k e = object_spot c 0 g k e
object_back c (PeriphObject g) k e = object_spot c 1 g k e
object_back c (LocalObject f l) k e =
    let h = guarded (nat_lt f c.funcs) (place_of c.objects (2 + f) l) k e in
    let s : 2 + f ≡ suc (suc f) = omega arith in
    object_spot c (2 + f) l k h.1 ∙ (ap (λ (g : ℕ). object_in c.funcs g l) s ∙ test_true (nat_lt f c.funcs) (LocalObject f l) (FunctionObject l) h.0)
object_back c (FunctionObject f) k e =
    let s : 2 + c.funcs ≡ suc (suc c.funcs) = omega arith in
    object_spot c (2 + c.funcs) f k e ∙ (ap (λ (g : ℕ). object_in c.funcs g f) s ∙ test_false (nat_lt c.funcs c.funcs) (LocalObject c.funcs f) (FunctionObject f) (le-ltb c.funcs c.funcs (omega arith)))

-- the content of an object by the object's number
pub content_back : (c : GroupCounts) (o k : ℕ) → place_of c.nodes c.funcs o ≡ Some k → node_from c k ≡ Content (object_from c o)
content_back c o k e =
    node_spot c c.funcs o k e
    ∙ (test_false (nat_lt c.funcs c.funcs) (Register c.funcs o) (if nat_eq c.funcs c.funcs then Content (object_from c o) else Outcome o) (le-ltb c.funcs c.funcs (omega arith))
    ∙ test_true (nat_eq c.funcs c.funcs) (Content (object_from c o)) (Outcome o) (eq-eqb c.funcs c.funcs refl))

-- a number of a content is by the number of an object
content_at : (c : GroupCounts) (r : Option ℕ) (k : ℕ) → content_number c r ≡ Some k → (j : ℕ) × (r ≡ Some j) × (place_of c.nodes c.funcs j ≡ Some k)
content_at c None k e = absurd (none_is None k refl e)
content_at c (Some j) k e = (j, refl, e)

pub node_back : (c : GroupCounts) (n : Node) (k : ℕ) → node_number c n ≡ Some k → node_from c k ≡ n
node_back c (Register f r) k e =
    let h = guarded (nat_lt f c.funcs) (place_of c.nodes f r) k e in
    node_spot c f r k h.1 ∙ test_true (nat_lt f c.funcs) (Register f r) (if nat_eq f c.funcs then Content (object_from c r) else Outcome r) h.0
node_back c (Content o) k e =
    let h = content_at c (object_number c o) k e in
    content_back c h.0 k h.2 ∙ ap Content (object_back c o h.0 h.1)
node_back c (Outcome f) k e =
    let l : 1 + c.funcs ≡ c.funcs → ⊥ = λ q. omega arith in
    node_spot c (1 + c.funcs) f k e
    ∙ (test_false (nat_lt (1 + c.funcs) c.funcs) (Register (1 + c.funcs) f) (if nat_eq (1 + c.funcs) c.funcs then Content (object_from c f) else Outcome f) (le-ltb (1 + c.funcs) c.funcs (omega arith))
    ∙ test_false (nat_eq (1 + c.funcs) c.funcs) (Content (object_from c f)) (Outcome f) (ne_eqb (1 + c.funcs) c.funcs l))

-- ---- what the groups of a program have

after : (xs ys : List ℕ) (y n : ℕ) → length xs ≡ n → get_or (xs ++ y ∷ ys) n 0 ≡ y
after [] ys y n e = let q : n ≡ 0 = omega arith in ap (λ (m : ℕ). get_or (y ∷ ys) m 0) q
after (x ∷ xs) ys y zero e = absurd (omega arith)
after (x ∷ xs) ys y (suc n) e = after xs ys y n (omega arith)

pub funcs_group : (p : Program) → get_or (object_groups p) (2 + length p.funcs) 0 ≡ length p.funcs
funcs_group p =
    let s : 2 + length p.funcs ≡ suc (suc (length p.funcs)) = omega arith in
    ap (λ (n : ℕ). get_or (object_groups p) n 0) s ∙ after (map (λ (f : NumberedFunc). length f.locals) p.funcs) [] (length p.funcs) (length p.funcs) (length-map p.funcs (λ (f : NumberedFunc). length f.locals))

pub contents_group : (p : Program) (n : ℕ) → get_or (node_groups p n) (length p.funcs) 0 ≡ n
contents_group p n = after (map (λ (f : NumberedFunc). length f.regs) p.funcs) (length p.funcs ∷ []) n (length p.funcs) (length-map p.funcs (λ (f : NumberedFunc). length f.regs))

pub registers_group : (p : Program) (n f : ℕ) → f < length p.funcs → get_or (node_groups p n) f 0 ≡ length (func_at p f).regs
registers_group p n f l =
    let m = length-map p.funcs (λ (x : NumberedFunc). length x.regs) in
    get_or_append_left (map (λ (x : NumberedFunc). length x.regs) p.funcs) (n ∷ length p.funcs ∷ []) 0 f (omega arith) ∙ get_or-map (λ (x : NumberedFunc). length x.regs) p.funcs f no_func 0 l

place_there : (cs : List ℕ) (g i : ℕ) → i < get_or cs g 0 → place_of cs g i ≡ Some (start_of cs g + i)
place_there cs g i l = test_true (nat_lt i (get_or cs g 0)) (Some (start_of cs g + i)) None (lt-ltb i (get_or cs g 0) l)

place_within : (cs : List ℕ) (g i k : ℕ) → place_of cs g i ≡ Some k → k < sum cs
place_within cs g i k e = let h = place_at cs g i k e in let b = sum_more cs g i h.0 in let q = h.1 in omega arith

object_within : (c : GroupCounts) (o : Object) (k : ℕ) → object_number c o ≡ Some k → k < sum c.objects
object_within c (GlobalObject g) k e = place_within c.objects 0 g k e
object_within c (PeriphObject g) k e = place_within c.objects 1 g k e
object_within c (LocalObject f l) k e = place_within c.objects (2 + f) l k (guarded (nat_lt f c.funcs) (place_of c.objects (2 + f) l) k e).1
object_within c (FunctionObject f) k e = place_within c.objects (2 + c.funcs) f k e

-- each object has a content
pub content_there : (p : Program) (o : Object) (k : ℕ) → object_number (numbering_of p) o ≡ Some k → (j : ℕ) × (place_of (numbering_of p).nodes (length p.funcs) k ≡ Some j)
content_there p o k e =
    let l = object_within (numbering_of p) o k e in
    let g = contents_group p (sum (object_groups p)) in
    (_, place_there (numbering_of p).nodes (length p.funcs) k (omega arith))

-- a register whose values are of objects is there
pub register_there : (p : Program) (f r : ℕ) → carries (register_type p f r) ≡ true → (j : ℕ) × (node_number (numbering_of p) (Register f r) ≡ Some j)
register_there p f r h = by (cases_lt f (length p.funcs)) (cases_lt r (length (func_at p f).regs))
  where
    by : (f < length p.funcs) ⊎ (length p.funcs ≤ f) → (r < length (func_at p f).regs) ⊎ (length (func_at p f).regs ≤ r) → (j : ℕ) × (node_number (numbering_of p) (Register f r) ≡ Some j)
    by (inl l) (inl m) =
        let g = registers_group p (sum (object_groups p)) f l in
        (_, test_true (nat_lt f (length p.funcs)) (place_of (numbering_of p).nodes f r) None (lt-ltb f (length p.funcs) l) ∙ place_there (numbering_of p).nodes f r (omega arith))
    by a (inr m) = absurd (false≢true (ap carries (sym (get_or_past (func_at p f).regs r U32 m)) ∙ h))
    by (inr l) b = absurd (false≢true (ap (λ (x : NumberedFunc). carries (get_or x.regs r U32)) (sym (get_or_past p.funcs f no_func l)) ∙ h))

-- the function that an object is
pub callee_there : (p : Program) (g k : ℕ) → object_number (numbering_of p) (FunctionObject g) ≡ Some k → (callee_of (numbering_of p) k ≡ Some g) × (g < length p.funcs)
callee_there p g k e =
    let h = place_at (object_groups p) (2 + length p.funcs) g k e in
    let a = h.0 in
    let b = h.1 in
    let s = funcs_group p in
    let first = start_of (object_groups p) (2 + length p.funcs) in
    let q : k - first ≡ g = omega arith in
    (test_true (nat_le first k) (Some (k - first)) None (le-leb first k (omega arith)) ∙ ap Some q, omega arith)

callee_some : (first o g : ℕ) (b : Bool) → nat_le first o ≡ b → (if b then Some (o - first) else None) ≡ Some g → first + g ≡ o
callee_some first o g true q e = let s = some_is (o - first) g e in let l = leb-true first o q in omega arith
callee_some first o g false q e = absurd (none_is None g refl e)

-- an object that is a function
pub callee_back : (p : Program) (o g : ℕ) → callee_of (numbering_of p) o ≡ Some g → g < length p.funcs → object_from (numbering_of p) o ≡ FunctionObject g
callee_back p o g e l =
    let s = funcs_group p in
    let first = start_of (object_groups p) (2 + length p.funcs) in
    let q = callee_some first o g (nat_le first o) refl e in
    object_back (numbering_of p) (FunctionObject g) o (place_there (object_groups p) (2 + length p.funcs) g (omega arith) ∙ ap Some q)

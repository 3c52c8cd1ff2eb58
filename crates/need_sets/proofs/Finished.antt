-- The rows of sets, from the rows of pairs.
use Rattle.std.proofs.Common.{◌≡◌, ℕ, zero, suc, ◌+◌, ◌<◌, ◌≤◌, List, [], ◌∷◌, ◌++◌, get_or, length, map, Option, Some, None, refl, sym, ap, ◌∙◌, subst, arith, ◌⊎◌, inl, inr, Contains}
use Rattle.std.specs.List.Sorted.{IsStrictlySortedBy}
use Rattle.std.specs.List.{list_any, sum}
use Rattle.std.proofs.lemmas.List.{length-append, get_or_append_left, get_or_push}
use Rattle.std.proofs.lemmas.Bool.{cases_lt}
use Rattle.ir_laws.specs.Sets.{Node}
use Rattle.ir_model.specs.declared.object.ObjId.{ObjId}
use Rattle.ir_model.specs.Objects.{object_by, compare_objects}
use Rattle.ir_model.specs.State.{Object}
use Rattle.plan_model.specs.Lists.{ListsExactly}
use Rattle.need_sets.specs.Numbers.{GroupCounts, node_number, object_number, AreByNumber}
use Rattle.need_numbers.specs.Rows.{Lists, row}
use Rattle.need_sets.specs.Sets.{Sets, AreInOrder, same_object, row_at, sets_of}
use Rattle.need_sets.specs.Pairs.{IsWithin, has_number, is_pair, sets_by, object_at}
use Rattle.need_sets.proofs.Numbered.{lists_numbers}

-- the first `node` rows are the objects of the lists' numbers
pub record AreDone (by_number : List ObjId) (lists : Lists) (node : ℕ) (rows : List (List ObjId)) : Type 0 where
  pub count : length rows ≡ node
  pub each : (n : ℕ) → n < node → ListsExactly compare_objects (Contains (map (object_at by_number) (row lists n))) (get_or rows n [])

pub one_more : (by_number : List ObjId) (lists : Lists) (node : ℕ) (rows : List (List ObjId)) (xs : List ObjId) → AreDone by_number lists node rows → ListsExactly compare_objects (Contains (map (object_at by_number) (row lists node))) xs → AreDone by_number lists (node + 1) (rows ++ xs ∷ [])
one_more by_number lists node rows xs d e = record { count = (let a = length-append rows (xs ∷ []) in let b = d.count in omega arith); each = λ n l. at n l (cases_lt n node) }
  where
    at : (n : ℕ) → n < node + 1 → (n < node) ⊎ (node ≤ n) → ListsExactly compare_objects (Contains (map (object_at by_number) (row lists n))) (get_or (rows ++ xs ∷ []) n [])
    at n l (inl h) = subst (ListsExactly compare_objects (Contains (map (object_at by_number) (row lists n)))) (sym (get_or_append_left rows (xs ∷ []) [] n (let b = d.count in omega arith))) (d.each n h)
    at n l (inr h) =
        let s : node ≡ n = omega arith in
        subst (λ m. ListsExactly compare_objects (Contains (map (object_at by_number) (row lists m))) (get_or (rows ++ xs ∷ []) m [])) s
        (subst (ListsExactly compare_objects (Contains (map (object_at by_number) (row lists node)))) (sym (get_or_push rows xs [] node d.count)) e)

past : {X : Type 0} (xs : List (List X)) (n : ℕ) → length xs ≤ n → get_or xs n [] ≡ []
past [] n l = refl
past (x ∷ xs) zero l = absurd (omega arith)
past (x ∷ xs) (suc n) l = past xs n (omega arith)

pub in_order : (by_number : List ObjId) (lists : Lists) (node : ℕ) (rows : List (List ObjId)) → AreDone by_number lists node rows → AreInOrder rows
unfolding IsStrictlySortedBy
in_order by_number lists node rows d = λ n. at n (cases_lt n node)
  where
    at : (n : ℕ) → (n < node) ⊎ (node ≤ n) → IsStrictlySortedBy compare_objects (get_or rows n [])
    at n (inl h) = (d.each n h).rising
    at n (inr h) = subst (IsStrictlySortedBy compare_objects) (sym (past rows n (let b = d.count in omega arith))) tt

listed : (c : GroupCounts) (by_number : List ObjId) (lists : Lists) (rows : List (List ObjId)) → AreByNumber c by_number → IsWithin (length by_number) lists → AreDone by_number lists (length lists) rows → (n : ℕ) (o : Object) → list_any (λ x. same_object (object_by x) o) (get_or rows n []) ≡ has_number (row lists n) (object_number c o)
listed c by_number lists rows t w d n o = at (cases_lt n (length lists))
  where
    at : (n < length lists) ⊎ (length lists ≤ n) → list_any (λ x. same_object (object_by x) o) (get_or rows n []) ≡ has_number (row lists n) (object_number c o)
    at (inl h) = lists_numbers c by_number (row lists n) (get_or rows n []) t (λ k l. w.each n k l) (d.each n h) o
    at (inr h) =
        let e = past rows n (let b = d.count in omega arith) in
        let f = past lists n h in
        ap (list_any (λ x. same_object (object_by x) o)) e ∙ (empty (object_number c o) ∙ ap (λ (js : List ℕ). has_number js (object_number c o)) (sym f))
      where
        empty : (r : Option ℕ) → list_any (λ x. same_object (object_by x) o) [] ≡ has_number [] r
        empty None = refl
        empty (Some j) = refl

pub same_sets : (s : Sets) (by_number : List ObjId) (lists : Lists) → AreByNumber s.numbers by_number → IsWithin (length by_number) lists → AreDone by_number lists (length lists) s.rows → (n : Node) (o : Object) → sets_of s n o ≡ sets_by s.numbers lists n o
same_sets s by_number lists t w d n o = at (node_number s.numbers n)
  where
    at : (r : Option ℕ) → list_any (λ x. same_object (object_by x) o) (row_at s.rows r) ≡ is_pair lists r (object_number s.numbers o)
    at None = refl
    at (Some k) = listed s.numbers by_number lists s.rows t w d k o

-- one row more, by the lists that were read
pub one_pushed : (by_number t : List ObjId) (lists : Lists) (js : List ℕ) (node : ℕ) (rows new : List (List ObjId)) (xs : List ObjId) → t ≡ by_number → js ≡ row lists node → new ≡ rows ++ xs ∷ [] → AreDone by_number lists node rows → ListsExactly compare_objects (Contains (map (object_at t) js)) xs → AreDone by_number lists (node + 1) new
one_pushed by_number t lists js node rows new xs a b e d h =
    subst (AreDone by_number lists (node + 1)) (sym e)
    (one_more by_number lists node rows xs d (subst (λ (s : List ObjId). ListsExactly compare_objects (Contains (map (object_at s) (row lists node))) xs) a (subst (λ (k : List ℕ). ListsExactly compare_objects (Contains (map (object_at t) k)) xs) b h)))

pub sets_are : (c d : GroupCounts) (by_number : List ObjId) (lists : Lists) (rows : List (List ObjId)) (node : ℕ) → c ≡ d → AreByNumber c by_number → length by_number ≡ sum c.objects → IsWithin (sum d.objects) lists → AreDone by_number lists node rows → node ≡ length lists
    → (n : Node) (o : Object) → sets_of (record { numbers = c; rows = rows }) n o ≡ sets_by d lists n o
sets_are c d by_number lists rows node e t l w a m n o =
    same_sets (record { numbers = c; rows = rows }) by_number lists t (subst (λ (k : ℕ). IsWithin k lists) (sym (l ∙ ap (λ (x : GroupCounts). sum x.objects) e)) w) (subst (λ (k : ℕ). AreDone by_number lists k rows) m a) n o
    ∙ ap (λ (x : GroupCounts). sets_by x lists n o) e

-- A sum over numbered edges is no more than the sum over a list that has all edges.
use Rattle.std.proofs.Common.{◌≡◌, ℕ, zero, suc, ◌+◌, ◌*◌, ◌<◌, ◌≤◌, Bool, true, false, List, [], ◌∷◌, get_or, length, map, Option, Some, None, refl, sym, ap, ◌∙◌, subst, arith, nat_eq, if◌then◌else◌, ◌⊎◌, inl, inr}
use Rattle.std.specs.Prelude.{Contains}
use Rattle.std.specs.Cmp.{nat_eq_equiv}
use Rattle.std.specs.List.{IsDistinct, list_any, sum_by}
use Rattle.std.specs.Set.{is_member}
use Rattle.std.proofs.Math.Nat.{mul-le-mul_left}
use Rattle.std.proofs.lemmas.Bool.{false≢true, eq-eqb, ne_eqb, cases_lt, or_left, or_right}
use Rattle.std.proofs.lemmas.List.{length-map, get_or-map}
use Rattle.std.proofs.lemmas.List.Sums.{sum_by-cons}
use Rattle.std.proofs.lemmas.List.Folds.{Any-from_list_any, list_any_at}
use Rattle.std.proofs.lemmas.Map.Made.{length-le_from_is_member}
use Rattle.ir_model.specs.declared.object.ObjId.{ObjId}
use Rattle.ir_model.specs.Objects.{object_by}
use Rattle.ir_model.specs.Resolved.{Program}
use Rattle.ir_model.specs.State.{Object}
use Rattle.ir_laws.specs.Sets.{Node}
use Rattle.need_sets.specs.Numbers.{GroupCounts, object_number, node_number, numbering_of}
use Rattle.need_numbers.specs.Rows.{Lists, row}
use Rattle.need_sets.specs.Sets.{Sets, same_object, sets_of, row_of}
use Rattle.need_sets.specs.Pairs.{sets_by}
use Rattle.need_sets.proofs.Members.{same_is}
use Rattle.need_lists.proofs.Parts.{cases, in_none}
use Rattle.need_sets.specs.Solutions.{is_in, total}
use Rattle.need_sets.proofs.Totals.{total_grows}
use Rattle.need_points_to.specs.Edges.{IsEdge}
use Rattle.need_points_to.proofs.Back.{object_from}
use Rattle.need_points_to.proofs.Edges.{is_number, IsEdgeOf, AreReal, has_pair}

-- ---- sums of numbers

total_point : (f : ℕ → ℕ) (n a v : ℕ) → ((i : ℕ) → (i ≡ a → ⊥) → f i ≡ 0) → f a ≤ v → total f n ≤ v
total_point f zero a v h l = omega arith
total_point f (suc n) a v h l = by (cases_lt n a) (cases_lt a n) (total_point f n a v h l)
  where
    none : (m : ℕ) → ((i : ℕ) → i < m → f i ≡ 0) → total f m ≡ 0
    none zero z = refl
    none (suc m) z = let r = none m (λ i b. z i (omega arith)) in let s = z m (omega arith) in omega arith

    by : (n < a) ⊎ (a ≤ n) → (a < n) ⊎ (n ≤ a) → total f n ≤ v → total f (suc n) ≤ v
    by (inl q) s ih = let e = h n (λ z. omega arith) in omega arith
    by (inr q) (inl s) ih = let e = h n (λ z. omega arith) in omega arith
    by (inr q) (inr s) ih =
        let e : n ≡ a = omega arith in
        let z = none n (λ i b. h i (λ y. omega arith)) in
        let w : f n ≤ v = subst (λ x. f x ≤ v) (sym e) l in omega arith

total_added : (f g : ℕ → ℕ) (n : ℕ) → total (λ i. f i + g i) n ≡ total f n + total g n
total_added f g zero = refl
total_added f g (suc n) = let r = total_added f g n in omega arith

total_same : (f g : ℕ → ℕ) (n : ℕ) → ((i : ℕ) → f i ≡ g i) → total f n ≡ total g n
total_same f g zero h = refl
total_same f g (suc n) h = let r = total_same f g n h in let s = h n in omega arith

total_scaled : (f : ℕ → ℕ) (k n : ℕ) → total (λ i. k * f i) n ≡ k * total f n
total_scaled f k zero = omega arith
total_scaled f k (suc n) = let r = total_scaled f k n in omega arith

-- ---- numbers of nodes in a list of edges

abbrev number_or_none : Option ℕ → ℕ
number_or_none None = 0
number_or_none (Some k) = k

module _ (c : GroupCounts) where
  -- the numbers of the nodes to which edges lead from the node of a number
  abbrev targets : ℕ → List (Node × Node) → List ℕ
  targets a [] = []
  targets a (e ∷ es) = if is_number (node_number c e.0) a then number_or_none (node_number c e.1) ∷ targets a es else targets a es

  listed_target : (x y : Node) (a b : ℕ) (es : List (Node × Node)) → node_number c x ≡ Some a → node_number c y ≡ Some b → Contains es (x, y) → list_any (nat_eq b) (targets a es) ≡ true
  listed_target x y a b [] e f h = absurd (in_none (x, y) h)
  listed_target x y a b (z ∷ es) e f h = by (is_number (node_number c z.0) a) refl (cases z (x, y) es h) (λ r. listed_target x y a b es e f r)
    where
      by : (t : Bool) → is_number (node_number c z.0) a ≡ t → (z ≡ (x, y)) ⊎ Contains es (x, y) → (Contains es (x, y) → list_any (nat_eq b) (targets a es) ≡ true)
          → list_any (nat_eq b) (if t then number_or_none (node_number c z.1) ∷ targets a es else targets a es) ≡ true
      by true q (inl s) ih = or_left (nat_eq b (number_or_none (node_number c z.1))) (list_any (nat_eq b) (targets a es)) (eq-eqb b (number_or_none (node_number c z.1)) (sym (ap (λ (w : Node × Node). number_or_none (node_number c w.1)) s ∙ ap number_or_none f)))
      by true q (inr s) ih = or_right (nat_eq b (number_or_none (node_number c z.1))) (list_any (nat_eq b) (targets a es)) (ih s)
      by false q (inl s) ih = absurd (false≢true (sym q ∙ (ap (λ (w : Node × Node). is_number (node_number c w.0) a) s ∙ (ap (λ r. is_number r a) e ∙ eq-eqb a a refl))))
      by false q (inr s) ih = ih s

  -- the sum over the edges of a list, by their first nodes
  module _ (w : ℕ → ℕ) (size : Node → ℕ) (enough : (x : Node) (a : ℕ) → node_number c x ≡ Some a → w a ≤ size x) where
    one_edge : (z : Node × Node) (r : Option ℕ) → node_number c z.0 ≡ r → (n : ℕ) → total (λ a. (if is_number r a then 1 else 0) * w a) n ≤ size z.0
    one_edge z None e n = let q = none n in omega arith
      where
        none : (m : ℕ) → total (λ a. 0 * w a) m ≡ 0
        none zero = refl
        none (suc m) = let r = none m in omega arith
    one_edge z (Some k) e n =
        total_point (λ a. (if nat_eq k a then 1 else 0) * w a) n k (size z.0)
        (λ i d. ap (λ (b : Bool). (if b then 1 else 0) * w i) (ne_eqb k i (λ q. d (sym q))) ∙ omega arith)
        (let q : (if nat_eq k k then 1 else 0) * w k ≡ 1 * w k = ap (λ (b : Bool). (if b then 1 else 0) * w k) (eq-eqb k k refl) in let l = enough z.0 k e in omega arith)

    longer : (z : Node × Node) (es : List (Node × Node)) (a : ℕ) → length (targets a (z ∷ es)) ≡ (if is_number (node_number c z.0) a then 1 else 0) + length (targets a es)
    longer z es a = by (is_number (node_number c z.0) a)
      where
        by : (t : Bool) → length (if t then number_or_none (node_number c z.1) ∷ targets a es else targets a es) ≡ (if t then 1 else 0) + length (targets a es)
        by true = omega arith
        by false = omega arith

    all_edges : (n : ℕ) (es : List (Node × Node)) → total (λ a. length (targets a es) * w a) n ≤ sum_by (λ (e : Node × Node). size e.0) es
    all_edges n [] = let q = none n in omega arith
      where
        none : (m : ℕ) → total (λ a. 0 * w a) m ≡ 0
        none zero = refl
        none (suc m) = let r = none m in omega arith
    all_edges n (z ∷ es) =
        let r = all_edges n es in
        let s = sum_by-cons (λ (e : Node × Node). size e.0) z es in
        let q = one_edge z (node_number c z.0) refl n in
        let t = total_same (λ a. length (targets a (z ∷ es)) * w a) (λ a. (if is_number (node_number c z.0) a then 1 else 0) * w a + length (targets a es) * w a) n (λ a. ap (λ k. k * w a) (longer z es a) ∙ omega arith) in
        let u = total_added (λ a. (if is_number (node_number c z.0) a then 1 else 0) * w a) (λ a. length (targets a es) * w a) n in
        omega arith

-- ---- the sizes of sets

module _ (p : Program) (s : Sets) (rows : Lists) (same : (n : Node) (o : Object) → sets_of s n o ≡ sets_by (numbering_of p) rows n o) (real : AreReal p rows) where
  abbrev cn : GroupCounts
  cn = numbering_of p

  abbrev number_of : ObjId → ℕ
  number_of o = number_or_none (object_number cn (object_by o))

  number_listed : (x : Node) (a j : ℕ) → sets_of s x (object_from cn j) ≡ true → object_number cn (object_from cn j) ≡ Some j → is_member nat_eq (map number_of (row_of s x)) j ≡ true
  number_listed x a j h e =
      let f = Any-from_list_any (λ y. same_object (object_by y) (object_from cn j)) (row_of s x) h in
      let k = f.0 in
      let y = f.1 in
      let l : k < length (map number_of (row_of s x)) = let q = length-map (row_of s x) number_of in let z = f.2 in omega arith in
      let g : get_or (map number_of (row_of s x)) k 0 ≡ number_of y = get_or-map number_of (row_of s x) k y 0 f.2 ∙ ap number_of f.3 in
      let n : number_of y ≡ j = ap (λ o. number_or_none (object_number cn o)) (same_is (object_by y) (object_from cn j) f.4) ∙ ap number_or_none e in
      list_any_at (nat_eq j) (map number_of (row_of s x)) k 0 l (eq-eqb j (get_or (map number_of (row_of s x)) k 0) (sym (g ∙ n)))

  in_row : (a j : ℕ) → is_member nat_eq (row rows a) j ≡ true → is_in rows a j ≡ true
  in_row a j h = h

  pub set_size : (x : Node) (a : ℕ) → node_number cn x ≡ Some a → IsDistinct nat_eq (row rows a) → length (row rows a) ≤ length (row_of s x)
  set_size x a e d =
      let q = length-map (row_of s x) number_of in
      let l = length-le_from_is_member nat_eq_equiv (row rows a) (map number_of (row_of s x)) d (λ j h. by j (in_row a j h)) in
      omega arith
    where
      by : (j : ℕ) → is_in rows a j ≡ true → is_member nat_eq (map number_of (row_of s x)) j ≡ true
      by j h = number_listed x a j (same x (object_from cn j) ∙ has_pair p rows x (object_from cn j) a j e (real a j h) h) (real a j h)

  -- the bound by numbers is the bound by edges
  pub edges_bound : (n f count : ℕ) (edges : Lists) → ((a : ℕ) → IsDistinct nat_eq (row edges a)) → ((a : ℕ) → IsDistinct nat_eq (row rows a)) → ((a b : ℕ) → is_in edges a b ≡ true → IsEdgeOf p (sets_by (numbering_of p) rows) a b)
      → count ≤ f + total (λ a. length (row edges a) * (1 + 3 * length (row rows a))) n
      → (es : List (Node × Node)) → ((x y : Node) → IsEdge p (sets_by (numbering_of p) rows) x y → Contains es (x, y)) → count ≤ 3 * (f + sum_by (λ (e : Node × Node). suc (length (row_of s e.0))) es)
  edges_bound n f count edges once apart each bound es all =
      let a = total_grows (λ i. length (row edges i) * (1 + 3 * length (row rows i))) (λ i. 3 * (length (row edges i) * (1 + length (row rows i)))) n (λ i. three (length (row edges i)) (length (row rows i))) in
      let b = total_scaled (λ i. length (row edges i) * (1 + length (row rows i))) 3 n in
      let d = total_grows (λ i. length (row edges i) * (1 + length (row rows i))) (λ i. length (targets cn i es) * (1 + length (row rows i))) n (λ i. fewer i) in
      let e = all_edges cn (λ i. 1 + length (row rows i)) (λ x. suc (length (row_of s x))) (λ x i q. let z = set_size x i q (apart i) in omega arith) n es in
      omega arith
    where
      three : (x y : ℕ) → x * (1 + 3 * y) ≤ 3 * (x * (1 + y))
      three x y = omega arith

      listed : (i j : ℕ) → is_in edges i j ≡ true → is_member nat_eq (targets cn i es) j ≡ true
      listed i j h = let x = each i j h in listed_target cn x.from x.to i j es x.from_is x.to_is (all x.from x.to x.edge)

      fewer : (i : ℕ) → length (row edges i) * (1 + length (row rows i)) ≤ length (targets cn i es) * (1 + length (row rows i))
      fewer i =
          let l = length-le_from_is_member nat_eq_equiv (row edges i) (targets cn i es) (once i) (λ j h. listed i j h) in
          let m : (1 + length (row rows i)) * length (row edges i) ≤ (1 + length (row rows i)) * length (targets cn i es) = mul-le-mul_left (1 + length (row rows i)) l in
          omega arith

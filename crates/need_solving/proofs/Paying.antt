-- What steps of a search cost.
use Rattle.std.proofs.Common.{◌≡◌, ℕ, zero, suc, ◌+◌, ◌-◌, ◌*◌, ◌<◌, ◌≤◌, false, List, length, sym, ap, ◌∙◌, subst, arith, ◌⊎◌, inl, inr}
use Rattle.std.proofs.Math.Nat.{mul-le-mul_left}
use Rattle.std.proofs.lemmas.Bool.{cases_lt}
use Rattle.need_numbers.specs.Rows.{Lists, row, added}
use Rattle.need_sets.specs.Pairs.{ObjectRows}
use Rattle.need_sets.specs.declared.rules.Pair.{Pair}
use Rattle.need_sets.specs.declared.rules.Edge.{Edge}
use Rattle.need_solving.specs.declared.state.State.{State}
use Rattle.need_sets.specs.declared.system.System.{System}
use Rattle.need_sets.specs.Solutions.{is_in, total, IsBounded}
use Rattle.need_solving.specs.Searching.{pair_at, IsSoundState, Grown, IsCopied, handled, charge, cost, IsPaid}
use Rattle.need_sets.proofs.Totals.{total_grows}
use Rattle.need_solving.proofs.Lists.{added_longer, added_more}
use Rattle.need_solving.proofs.Handled.{handled_same, handled_more, handled_next}

pub total_one : (f g : ℕ → ℕ) (n a d : ℕ) → a < n → ((i : ℕ) → f i ≤ g i) → f a + d ≤ g a → total f n + d ≤ total g n
total_one f g zero a d l h e = absurd (omega arith)
total_one f g (suc n) a d l h e = by (cases_lt a n) (λ m. total_one f g n a d m h e)
  where
    by : (a < n) ⊎ (n ≤ a) → (a < n → total f n + d ≤ total g n) → total f (suc n) + d ≤ total g (suc n)
    by (inl m) ih = let r = ih m in let s = h n in omega arith
    by (inr m) ih = let q : a ≡ n = omega arith in let r = total_grows f g n h in let s : f n + d ≤ g n = subst (λ x. f x + d ≤ g x) q e in omega arith

-- ---- payments

pub paid_none : (s : State) (m n : ℕ) → n ≡ m → IsPaid s s m n
paid_none s m n e = record { paid = omega arith }

pub paid_both : (s t u : State) (m n o : ℕ) → IsPaid s t m n → IsPaid t u n o → IsPaid s u m o
paid_both s t u m n o a b = let x = a.paid in let y = b.paid in record { paid = omega arith }

-- one product more
larger : (e f x y : ℕ) → e ≤ f → x ≤ y → e * x ≤ f * y
larger e f x y h k =
    let a : e * x ≤ e * y = mul-le-mul_left e k in
    let b : y * e ≤ y * f = mul-le-mul_left y h in
    omega arith

charge_grows : (s t : State) (a : ℕ) → length (row s.edges a) ≤ length (row t.edges a) → length (row s.pairs.rows a) ≤ length (row t.pairs.rows a) → handled a s.next s.log ≤ handled a t.next t.log → charge s a ≤ charge t a
charge_grows s t a h i j = larger (length (row s.edges a)) (length (row t.edges a)) (1 + 2 * length (row s.pairs.rows a) + handled a s.next s.log) (1 + 2 * length (row t.pairs.rows a) + handled a t.next t.log) h (omega arith)

same_handled : (s t : State) (a : ℕ) → Grown s t → s.next ≤ length s.log → t.next ≡ s.next → handled a s.next s.log ≡ handled a t.next t.log
same_handled s t a g l e =
    sym (ap (λ k. handled a k t.log) e ∙ handled_same a s.next s.log t.log (λ i b. g.log i (omega arith)))

-- pairs that come cost nothing
pub cost_grown : (s t : State) → Grown s t → t.edges ≡ s.edges → t.next ≡ s.next → s.next ≤ length s.log → cost s ≤ cost t
unfolding cost
cost_grown s t g e n l =
    subst (λ k. total (charge s) (length s.pairs.rows) ≤ total (charge t) k) (sym g.count)
    (total_grows (charge s) (charge t) (length s.pairs.rows) (λ a.
    let x : length (row s.edges a) ≡ length (row t.edges a) = ap (λ (y : Lists). length (row y a)) (sym e) in
    let h = same_handled s t a g l n in
    charge_grows s t a (omega arith) (g.lengths a) (omega arith)))

-- a new edge, along which all was copied
pub paid_edge : (w : System) (s t u : State) (e : Edge) (m n : ℕ) → IsSoundState w s → IsCopied s t e → u.pairs ≡ t.pairs → u.log ≡ t.log → u.edges ≡ added t.edges e.from e.to → u.next ≡ t.next → is_in t.edges e.from e.to ≡ false → e.from < length s.pairs.rows
    → n ≤ m + 1 + 2 * length (row s.pairs.rows e.from) → IsPaid s u m n
unfolding cost
paid_edge w s t u e m n h c p l q z new b steps =
    let k : length u.pairs.rows ≡ length s.pairs.rows = ap (λ (x : ObjectRows). length x.rows) p ∙ c.grown.count in
    let r = subst (λ y. total (charge s) (length s.pairs.rows) + (1 + 2 * length (row s.pairs.rows e.from)) ≤ total (charge u) y) (sym k)
    (total_one (charge s) (charge u) (length s.pairs.rows) e.from (1 + 2 * length (row s.pairs.rows e.from)) b (λ a. charge_grows s u a (edges a) (rows a) (ends a)) one) in
    record { paid = omega arith }
  where
    edges : (a : ℕ) → length (row s.edges a) ≤ length (row u.edges a)
    edges a = subst (λ (y : Lists). length (row s.edges a) ≤ length (row y a)) (sym q) (subst (λ (y : Lists). length (row y a) ≤ length (row (added t.edges e.from e.to) a)) c.edges (added_longer t.edges e.from e.to a))

    rows : (a : ℕ) → length (row s.pairs.rows a) ≤ length (row u.pairs.rows a)
    rows a = subst (λ (y : ObjectRows). length (row s.pairs.rows a) ≤ length (row y.rows a)) (sym p) (c.grown.lengths a)

    handled_is : (a : ℕ) → handled a s.next s.log ≡ handled a u.next u.log
    handled_is a = same_handled s t a c.grown h.next_in c.next ∙ sym (ap (λ k. handled a k u.log) z ∙ ap (λ (y : List Pair). handled a t.next y) l)

    ends : (a : ℕ) → handled a s.next s.log ≤ handled a u.next u.log
    ends a = let x = handled_is a in omega arith

    longer : length (row u.edges e.from) ≡ length (row s.edges e.from) + 1
    longer = let d = h.count in ap (λ (y : Lists). length (row y e.from)) q ∙ (added_more t.edges e.from e.to (subst (λ (y : Lists). e.from < length y) (sym c.edges) (omega arith)) new ∙ ap (λ (y : Lists). length (row y e.from) + 1) c.edges)

    one : charge s e.from + (1 + 2 * length (row s.pairs.rows e.from)) ≤ charge u e.from
    one =
        let x = rows e.from in
        let y = handled_is e.from in
        let f : charge s e.from ≤ length (row s.edges e.from) * (1 + 2 * length (row u.pairs.rows e.from) + handled e.from u.next u.log) =
        mul-le-mul_left (length (row s.edges e.from)) (omega arith) in
        let g : charge u e.from ≡ (length (row s.edges e.from) + 1) * (1 + 2 * length (row u.pairs.rows e.from) + handled e.from u.next u.log) =
        ap (λ k. k * (1 + 2 * length (row u.pairs.rows e.from) + handled e.from u.next u.log)) longer in
        omega arith

-- the next pair was passed on along all edges
pub paid_pass : (s t u : State) (x : Pair) (m n : ℕ) → Grown s t → t.edges ≡ s.edges → t.next ≡ s.next → s.next < length s.log → x ≡ pair_at s.log s.next → u.pairs ≡ t.pairs → u.log ≡ t.log → u.edges ≡ t.edges → u.next ≡ t.next + 1 → x.node < length s.pairs.rows
    → n ≤ m + length (row s.edges x.node) → IsPaid s u m n
unfolding cost
paid_pass s t u x m n g ed nx l is p lo q z b steps =
    let k : length u.pairs.rows ≡ length s.pairs.rows = ap (λ (y : ObjectRows). length y.rows) p ∙ g.count in
    let r = subst (λ y. total (charge s) (length s.pairs.rows) + length (row s.edges x.node) ≤ total (charge u) y) (sym k)
    (total_one (charge s) (charge u) (length s.pairs.rows) x.node (length (row s.edges x.node)) b (λ a. charge_grows s u a (let w = edges_are a in omega arith) (rows a) (ends a)) one) in
    record { paid = omega arith }
  where
    edges_are : (a : ℕ) → length (row u.edges a) ≡ length (row s.edges a)
    edges_are a = ap (λ (y : Lists). length (row y a)) (q ∙ ed)

    rows : (a : ℕ) → length (row s.pairs.rows a) ≤ length (row u.pairs.rows a)
    rows a = subst (λ (y : ObjectRows). length (row s.pairs.rows a) ≤ length (row y.rows a)) (sym p) (g.lengths a)

    before : (a : ℕ) → handled a s.next s.log ≡ handled a t.next u.log
    before a = same_handled s t a g (omega arith) nx ∙ sym (ap (λ (y : List Pair). handled a t.next y) lo)

    ends : (a : ℕ) → handled a s.next s.log ≤ handled a u.next u.log
    ends a = let y = before a in let h = handled_more a t.next u.next u.log z in omega arith

    pair : (pair_at u.log t.next).node ≡ x.node
    pair = ap (λ (y : List Pair). (pair_at y t.next).node) lo ∙ (ap (λ k. (pair_at t.log k).node) nx ∙ (ap (λ (y : Pair). y.node) (g.log s.next l) ∙ ap (λ (y : Pair). y.node) (sym is)))

    one : charge s x.node + length (row s.edges x.node) ≤ charge u x.node
    one =
        let r = rows x.node in
        let h = before x.node in
        let i = handled_next x.node t.next u.next u.log z pair in
        let f : length (row s.edges x.node) * (1 + 2 * length (row s.pairs.rows x.node) + handled x.node s.next s.log + 1) ≤ length (row s.edges x.node) * (1 + 2 * length (row u.pairs.rows x.node) + handled x.node u.next u.log) =
        mul-le-mul_left (length (row s.edges x.node)) (omega arith) in
        let j : charge u x.node ≡ length (row s.edges x.node) * (1 + 2 * length (row u.pairs.rows x.node) + handled x.node u.next u.log) =
        ap (λ k. k * (1 + 2 * length (row u.pairs.rows x.node) + handled x.node u.next u.log)) (edges_are x.node) in
        omega arith

-- at the end
pub bounded : (w : System) (s : State) (m n : ℕ) → IsSoundState w s → length s.log ≤ s.next → n ≤ m + length w.rules.facts.items + cost s → IsBounded w s.pairs.rows (n - m)
unfolding cost
bounded w s m n h l b = record {
  edges = s.edges;
  once = h.once;
  apart = h.apart;
  needed = h.needed;
  steps =
      (let q : s.next ≡ length s.log = (let y = h.next_in in omega arith) in
      let r = total_grows (charge s) (λ a. length (row s.edges a) * (1 + 3 * length (row s.pairs.rows a))) (length s.pairs.rows) (λ a.
      let y = h.counted a in
      let z : handled a s.next s.log ≡ handled a (length s.log) s.log = ap (λ k. handled a k s.log) q in
      mul-le-mul_left (length (row s.edges a)) (omega arith)) in
      omega arith);
}

-- The next pair is passed on.
use Rattle.std.proofs.Common.{◌≡◌, ℕ, ◌+◌, ◌<◌, ◌≤◌, true, length, get_or, refl, sym, ap, ◌∙◌, subst, arith, ◌⊎◌, inl, inr, Option, Some, None, slice_get, below_more}
use Rattle.std.proofs.lemmas.Bool.{cases_lt}
use Rattle.need_numbers.specs.Rows.{Lists, row}
use Rattle.need_sets.specs.declared.rules.Pair.{Pair}
use Rattle.need_solving.specs.declared.state.State.{State}
use Rattle.need_sets.specs.declared.system.System.{System}
use Rattle.need_sets.specs.Solutions.{is_in}
use Rattle.need_solving.specs.Searching.{pair_at, IsSound, IsSoundState, Grown, IsPut}
use Rattle.need_solving.proofs.Lists.{taken, has_at, at_has}
use Rattle.need_solving.proofs.Putting.{holds_put, grown_put, has_put, grown_none, grown_both}
use Rattle.need_solving.proofs.Copying.{none_left}

-- the pair that comes next
pub record IsNext (w : System) (s : State) (x : Pair) : Type 0 where
  pub holds : IsSoundState w s
  pub next_in : s.next < length s.log
  pub is : x ≡ pair_at s.log s.next

pub record IsPassing (w : System) (s t : State) (x : Pair) (k : ℕ) : Type 0 where
  pub holds : IsSoundState w t
  pub grown : Grown s t
  pub edges : t.edges ≡ s.edges
  pub next : t.next ≡ s.next
  pub upto : k ≤ length (row s.edges x.node)
  pub each : (j : ℕ) → j < k → is_in t.pairs.rows (get_or (row t.edges x.node) j 0) x.object ≡ true

pub pass_none : (w : System) (s : State) (x : Pair) → IsSoundState w s → IsPassing w s s x 0
pass_none w s x h = record { holds = h; grown = grown_none s; edges = refl; next = refl; upto = omega arith; each = λ j l. absurd (omega arith) }

pub there : (w : System) (s t : State) (x : Pair) → IsNext w s x → Grown s t → is_in t.pairs.rows x.node x.object ≡ true
there w s t x n g = g.rows x.node x.object (subst (λ (p : Pair). is_in s.pairs.rows p.node p.object ≡ true) (sym n.is) (n.holds.kept s.next n.next_in))

pub node_there : (w : System) (s t : State) (x : Pair) (k : ℕ) → IsNext w s x → IsPassing w s t x k → x.node < length t.edges
node_there w s t x k n c =
    let a = subst (λ (p : Pair). p.node < length s.pairs.rows) (sym n.is) (n.holds.node_in s.next n.next_in) in
    let b = c.grown.count in let d = c.holds.count in omega arith

pub object_there : (w : System) (s t : State) (x : Pair) (k : ℕ) → IsNext w s x → IsPassing w s t x k → x.object < t.pairs.objects
object_there w s t x k n c =
    let a = subst (λ (p : Pair). p.object < s.pairs.objects) (sym n.is) (n.holds.object_in s.next n.next_in) in
    let b = c.grown.objects in omega arith

edge_there : (w : System) (t : State) (x : Pair) (k to : ℕ) (r : Option ℕ) → r ≡ slice_get (row t.edges x.node) k → r ≡ Some to → is_in t.edges x.node to ≡ true
edge_there w t x k to r f g = let h = taken (row t.edges x.node) k to (sym f ∙ g) in subst (λ y. is_in t.edges x.node y ≡ true) (h.1 0) (at_has (row t.edges x.node) k h.0)

pub target_there : (w : System) (t : State) (x : Pair) (k to : ℕ) (r : Option ℕ) → IsSoundState w t → r ≡ slice_get (row t.edges x.node) k → r ≡ Some to → to < length t.pairs.rows
target_there w t x k to r h f g = h.targets x.node to (edge_there w t x k to r f g)

pub pass_next : (w : System) (s t u : State) (x : Pair) (k m to : ℕ) (r : Option ℕ) → IsNext w s x → IsPassing w s t x k → m ≡ k + 1 → IsPut t u to x.object → r ≡ slice_get (row t.edges x.node) k → r ≡ Some to → IsPassing w s u x m
pass_next w s t u x k m to r n c z q f g = subst (IsPassing w s u x) (sym z) (
    let a = target_there w t x k to r c.holds f g in
    let h = taken (row t.edges x.node) k to (sym f ∙ g) in
    record {
      holds = holds_put w t u to x.object c.holds q a (object_there w s t x k n c) (λ Q p. c.holds.justified Q p x.node to x.object (edge_there w t x k to r f g) (c.holds.below Q p x.node x.object (there w s t x n c.grown)));
      grown = grown_both s t u c.grown (grown_put t u to x.object q);
      edges = q.edges ∙ c.edges;
      next = q.next ∙ c.next;
      upto = (let y = h.0 in let z = ap (λ (l : Lists). length (row l x.node)) c.edges in omega arith);
      each = below_more (λ j. is_in u.pairs.rows (get_or (row u.edges x.node) j 0) x.object ≡ true) k
          (λ j i. subst (λ (y : Lists). is_in u.pairs.rows (get_or (row y x.node) j 0) x.object ≡ true) (sym q.edges) ((grown_put t u to x.object q).rows _ x.object (c.each j i)))
          (subst (λ (y : Lists). is_in u.pairs.rows (get_or (row y x.node) k 0) x.object ≡ true) (sym q.edges) (subst (λ y. is_in u.pairs.rows y x.object ≡ true) (sym (h.1 0)) (has_put t u to x.object q a)));
    })

pub pass_all : (w : System) (s t : State) (x : Pair) (k m : ℕ) (r : Option ℕ) → IsNext w s x → IsPassing w s t x k → m ≡ t.next + 1 → r ≡ slice_get (row t.edges x.node) k → r ≡ None → IsSound w t.pairs.rows t.pairs.objects t.log t.edges m
pass_all w s t x k m r n c z f g =
    let h = none_left (row t.edges x.node) k (sym f ∙ g) in
    let y = c.grown.log_count in let e = c.next in let v = n.next_in in
    record {
      count = c.holds.count;
      logged = c.holds.logged;
      node_in = c.holds.node_in;
      object_in = c.holds.object_in;
      kept = c.holds.kept;
      targets = c.holds.targets;
      below = c.holds.below;
      justified = c.holds.justified;
      once = c.holds.once;
      apart = c.holds.apart;
      needed = c.holds.needed;
      counted = c.holds.counted;
      next_in = omega arith;
      flows = λ i b l q. elim (split i (omega arith)) [
        | inl d ↦ c.holds.flows i b d q
        | inr d ↦
            let p : pair_at t.log i ≡ x = ap (pair_at t.log) (d ∙ e) ∙ (c.grown.log s.next n.next_in ∙ sym n.is) in
            subst (λ (a : Pair). is_in t.pairs.rows b a.object ≡ true) (sym p) (last b (subst (λ (a : Pair). is_in t.edges a.node b ≡ true) p q))
      ];
    }
  where
    split : (i : ℕ) → i < t.next + 1 → (i < t.next) ⊎ (i ≡ t.next)
    split i l = elim (cases_lt i t.next) [ inl a ↦ inl a | inr a ↦ inr (omega arith) ]

    last : (b : ℕ) → is_in t.edges x.node b ≡ true → is_in t.pairs.rows b x.object ≡ true
    last b q = let u = has_at b (row t.edges x.node) q in subst (λ y. is_in t.pairs.rows y x.object ≡ true) u.2 (c.each u.0 (let a = u.1 in let o = none_left (row t.edges x.node) k (sym f ∙ g) in omega arith))

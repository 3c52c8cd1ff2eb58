-- The objects of a node are put to another's, one by one.
use Rattle.std.proofs.Common.{◌≡◌, ◌≢◌, ℕ, zero, suc, ◌+◌, ◌<◌, ◌≤◌, true, List, [], ◌∷◌, length, get_or, refl, sym, ap, ◌∙◌, subst, arith, inl, inr, Option, Some, None, slice_get, below_more}
use Rattle.std.proofs.lemmas.List.{get_or_default}
use Rattle.need_numbers.specs.Rows.{Lists, row, added}
use Rattle.need_sets.specs.declared.rules.Pair.{Pair}
use Rattle.need_sets.specs.declared.rules.Edge.{Edge}
use Rattle.need_solving.specs.declared.state.State.{State}
use Rattle.need_sets.specs.declared.system.System.{System}
use Rattle.need_sets.specs.Rules.{Relation, Passes, OnEdge, no_edge}
use Rattle.need_sets.specs.declared.rules.Trigger.{Trigger}
use Rattle.need_sets.specs.Solutions.{ObeysAll, is_in, IsAsked}
use Rattle.need_solving.specs.Searching.{asked, pair_at, IsSound, IsSoundState, Grown, IsPut, IsCopied}
use Rattle.need_solving.proofs.Lists.{taken, added_other, has_at, at_has, added_cases, added_count, added_distinct}
use Rattle.need_solving.proofs.Putting.{holds_put, grown_put, has_put, grown_none, grown_both}
use Rattle.need_solving.proofs.Firing.{on_some}

pub record IsCopying (w : System) (s t : State) (e : Edge) (k : ℕ) : Type 0 where
  pub holds : IsSoundState w t
  pub grown : Grown s t
  pub edges : t.edges ≡ s.edges
  pub next : t.next ≡ s.next
  pub same : row t.pairs.rows e.from ≡ row s.pairs.rows e.from
  pub upto : k ≤ length (row s.pairs.rows e.from)
  pub each : (j : ℕ) → j < k → is_in t.pairs.rows e.to (get_or (row t.pairs.rows e.from) j 0) ≡ true

pub none_left : {X : Type 0} (xs : List X) (k : ℕ) → slice_get xs k ≡ None → length xs ≤ k
none_left [] k e = omega arith
none_left (y ∷ xs) zero e = cc
none_left (y ∷ xs) (suc k) e = let h = none_left xs k e in omega arith

pub copy_none : (w : System) (s : State) (e : Edge) → IsSoundState w s → IsCopying w s s e 0
copy_none w s e h = record { holds = h; grown = grown_none s; edges = refl; next = refl; same = refl; upto = omega arith; each = λ j l. absurd (omega arith) }

pub copy_next : (w : System) (s t u : State) (e : Edge) (k m o : ℕ) (r : Option ℕ) → IsCopying w s t e k → m ≡ k + 1 → IsPut t u e.to o → e.from ≢ e.to → e.to < length s.pairs.rows → o < t.pairs.objects → r ≡ slice_get (row t.pairs.rows e.from) k → r ≡ Some o → ((Q : Relation) → ObeysAll w Q → Passes Q e) → IsCopying w s u e m
copy_next w s t u e k i o r c z q d l b f g allowed = subst (IsCopying w s u e) (sym z) (
    let h = taken (row t.pairs.rows e.from) k o (sym f ∙ g) in
    let n = c.grown.count in
    let m : e.to < length t.pairs.rows = omega arith in
    let same : row u.pairs.rows e.from ≡ row t.pairs.rows e.from = ap (λ (x : Lists). row x e.from) q.rows ∙ added_other t.pairs.rows e.to o e.from d in
    let there : is_in t.pairs.rows e.from o ≡ true = subst (λ x. is_in t.pairs.rows e.from x ≡ true) (h.1 0) (at_has (row t.pairs.rows e.from) k h.0) in
    record {
      holds = holds_put w t u e.to o c.holds q m b (λ Q p. allowed Q p o (c.holds.below Q p e.from o there));
      grown = grown_both s t u c.grown (grown_put t u e.to o q);
      edges = q.edges ∙ c.edges;
      next = q.next ∙ c.next;
      same = same ∙ c.same;
      upto = (let x = h.0 in let y = ap (λ (l : List ℕ). length l) c.same in omega arith);
      each = below_more (λ j. is_in u.pairs.rows e.to (get_or (row u.pairs.rows e.from) j 0) ≡ true) k
          (λ j i. subst (λ (x : List ℕ). is_in u.pairs.rows e.to (get_or x j 0) ≡ true) (sym same) ((grown_put t u e.to o q).rows e.to _ (c.each j i)))
          (subst (λ (x : List ℕ). is_in u.pairs.rows e.to (get_or x k 0) ≡ true) (sym same) (subst (λ x. is_in u.pairs.rows e.to x ≡ true) (sym (h.1 0)) (has_put t u e.to o q m)));
    })

pub copy_all : (w : System) (s t : State) (e : Edge) (k : ℕ) (r : Option ℕ) → IsCopying w s t e k → r ≡ slice_get (row t.pairs.rows e.from) k → r ≡ None → IsCopied s t e
copy_all w s t e k r c f g =
    let h = none_left (row t.pairs.rows e.from) k (sym f ∙ g) in
    record {
      grown = c.grown;
      edges = c.edges;
      next = c.next;
      same = c.same;
      copied = λ o i. let q = has_at o (row t.pairs.rows e.from) i in subst (λ x. is_in t.pairs.rows e.to x ≡ true) q.2 (c.each q.0 (let z = q.1 in omega arith));
    }

-- what is asked for is passed on by all sets that obey
pub asked_allowed : (w : System) (rows : Lists) (objects : ℕ) (l : List Pair) (edges : Lists) (next : ℕ) (e : Edge) → IsSound w rows objects l edges next → IsAsked w rows e → (Q : Relation) → ObeysAll w Q → Passes Q e
asked_allowed w rows objects l edges next e g (inl i) Q q = subst (Passes Q) (get_or_default w.rules.copies.items i.0 no_edge e i.1 ∙ i.2) (q.copies i.0 i.1)
asked_allowed w rows objects l edges next e g (inr t) Q q =
    on_some (asked w t.by t.object) e (Passes Q) t.asks
    (subst (λ (y : Trigger). OnEdge (asked w y t.object) (Passes Q)) t.listed.2 (q.triggers t.node t.listed.0 t.object t.by t.listed.1 (g.below Q q t.node t.object t.has)))

-- an edge along which all was copied
pub sound_edge : (w : System) (rows : Lists) (objects : ℕ) (l : List Pair) (edges : Lists) (next : ℕ) (e : Edge) → IsSound w rows objects l edges next → e.from < length rows → e.to < length rows → e.from ≢ e.to → IsAsked w rows e → ((o : ℕ) → is_in rows e.from o ≡ true → is_in rows e.to o ≡ true) → IsSound w rows objects l (added edges e.from e.to) next
sound_edge w rows objects l edges next e g a b d asked copied = let allowed = asked_allowed w rows objects l edges next e g asked in let n = added_count edges e.from e.to in let z = g.next_in in record {
  count = n ∙ g.count;
  next_in = g.next_in;
  logged = g.logged;
  node_in = g.node_in;
  object_in = g.object_in;
  kept = g.kept;
  below = g.below;
  targets = λ m x h. elim (added_cases edges e.from e.to m x h) [ inl v ↦ g.targets m x v | inr v ↦ subst (λ y. y < length rows) (sym v.1) b ];
  once = added_distinct edges e.from e.to g.once;
  apart = g.apart;
  needed = λ m x h. elim (added_cases edges e.from e.to m x h) [ inl v ↦ g.needed m x v | inr v ↦ record { apart = subst (λ y. y ≢ x) (sym v.0) (subst (λ y. e.from ≢ y) (sym v.1) d); asked = subst (λ y. IsAsked w rows (record { from = y; to = x })) (sym v.0) (subst (λ y. IsAsked w rows (record { from = e.from; to = y })) (sym v.1) asked) } ];
  counted = g.counted;
  justified = λ Q q m x o h i. elim (added_cases edges e.from e.to m x h) [ inl v ↦ g.justified Q q m x o v i | inr v ↦ subst (λ y. Q y o ≡ true) (sym v.1) (allowed Q q o (subst (λ y. Q y o ≡ true) v.0 i)) ];
  flows = λ i m h q. elim (added_cases edges e.from e.to (pair_at l i).node m q) [ inl v ↦ g.flows i m h v | inr v ↦ subst (λ y. is_in rows y (pair_at l i).object ≡ true) (sym v.1) (copied (pair_at l i).object (subst (λ y. is_in rows y (pair_at l i).object ≡ true) v.0 (g.kept i (omega arith)))) ];
}

-- a new edge
pub holds_edge : (w : System) (s : State) (edges : Lists) (e : Edge) → IsSoundState w s → edges ≡ added s.edges e.from e.to → e.from < length s.pairs.rows → e.to < length s.pairs.rows → e.from ≢ e.to → IsAsked w s.pairs.rows e → ((o : ℕ) → is_in s.pairs.rows e.from o ≡ true → is_in s.pairs.rows e.to o ≡ true) → IsSound w s.pairs.rows s.pairs.objects s.log edges s.next
holds_edge w s edges e h q a b d asked copied = subst (λ x. IsSound w s.pairs.rows s.pairs.objects s.log x s.next) (sym q) (sound_edge w s.pairs.rows s.pairs.objects s.log s.edges s.next e h a b d asked copied)

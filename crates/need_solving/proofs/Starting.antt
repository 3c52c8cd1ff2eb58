-- Facts and copies at the beginning.
use Rattle.std.proofs.Common.{◌≡◌, ℕ, ◌+◌, ◌<◌, true, length, get_or, refl, sym, ◌∙◌, subst, arith, below_more}
use Rattle.need_sets.specs.declared.rules.Pair.{Pair}
use Rattle.need_sets.specs.declared.rules.Edge.{Edge}
use Rattle.need_solving.specs.declared.state.State.{State}
use Rattle.need_sets.specs.declared.system.System.{System}
use Rattle.need_sets.specs.Rules.{no_edge}
use Rattle.need_sets.specs.Solutions.{is_in}
use Rattle.need_solving.specs.Searching.{pair_at, IsSoundState, Grown, IsPut, IsFound}
use Rattle.need_solving.proofs.Putting.{holds_put, grown_put, has_put, grown_none, grown_both}
use Rattle.need_solving.proofs.Firing.{found_more}

pub record IsPutting (w : System) (s t : State) (k : ℕ) : Type 0 where
  pub holds : IsSoundState w t
  pub grown : Grown s t
  pub next : t.next ≡ s.next
  pub each : (j : ℕ) → j < k → is_in t.pairs.rows (pair_at w.rules.facts.items j).node (pair_at w.rules.facts.items j).object ≡ true

pub put_none : (w : System) (s : State) → IsSoundState w s → IsPutting w s s 0
put_none w s h = record { holds = h; grown = grown_none s; next = refl; each = λ j l. absurd (omega arith) }

pub put_next : (w : System) (s t u : State) (x : Pair) (k : ℕ) → IsPutting w s t k → x ≡ pair_at w.rules.facts.items k → k < length w.rules.facts.items → IsPut t u x.node x.object → x.node < length t.pairs.rows → x.object < t.pairs.objects → IsPutting w s u (k + 1)
put_next w s t u x k c e l q a b = record {
  holds = holds_put w t u x.node x.object c.holds q a b (λ Q p. subst (λ (y : Pair). Q y.node y.object ≡ true) (sym e) (p.facts k l));
  grown = grown_both s t u c.grown (grown_put t u x.node x.object q);
  next = q.next ∙ c.next;
  each = below_more (λ j. is_in u.pairs.rows (pair_at w.rules.facts.items j).node (pair_at w.rules.facts.items j).object ≡ true) k
      (λ j i. (grown_put t u x.node x.object q).rows _ _ (c.each j i))
      (subst (λ (y : Pair). is_in u.pairs.rows y.node y.object ≡ true) e (has_put t u x.node x.object q a));
}

pub record IsPuttingEdges (w : System) (s t : State) (k : ℕ) : Type 0 where
  pub holds : IsSoundState w t
  pub grown : Grown s t
  pub next : t.next ≡ s.next
  pub each : (j : ℕ) → j < k → IsFound t.edges (get_or w.rules.copies.items j no_edge)

pub put_no_edges : (w : System) (s : State) → IsSoundState w s → IsPuttingEdges w s s 0
put_no_edges w s h = record { holds = h; grown = grown_none s; next = refl; each = λ j l. absurd (omega arith) }

pub put_next_edge : (w : System) (s t u : State) (e : Edge) (k : ℕ) → IsPuttingEdges w s t k → e ≡ get_or w.rules.copies.items k no_edge → IsSoundState w u → Grown t u → u.next ≡ t.next → IsFound u.edges e → IsPuttingEdges w s u (k + 1)
put_next_edge w s t u e k c q h g n f = record {
  holds = h;
  grown = grown_both s t u c.grown g;
  next = n ∙ c.next;
  each = below_more (λ j. IsFound u.edges (get_or w.rules.copies.items j no_edge)) k
      (λ j i. found_more t u (get_or w.rules.copies.items j no_edge) g (c.each j i))
      (subst (IsFound u.edges) q f);
}

-- What is asked for a pair is found, one trigger after another.
use Rattle.std.proofs.Common.{◌≡◌, ℕ, ◌+◌, ◌<◌, true, List, [], get_or, refl, sym, ◌∙◌, subst, arith, inl, inr, Option, Some, None, slice_get, below_more}
use Rattle.need_sets.specs.declared.rules.Pair.{Pair}
use Rattle.need_sets.specs.declared.rules.Edge.{Edge}
use Rattle.need_sets.specs.declared.rules.Trigger.{Trigger}
use Rattle.need_solving.specs.declared.state.State.{State}
use Rattle.need_sets.specs.declared.system.System.{System}
use Rattle.need_sets.specs.Rules.{OnEdge, lists_in}
use Rattle.need_sets.specs.Solutions.{is_in, IsAsked}
use Rattle.need_solving.specs.Searching.{asked, IsSoundState, Grown, IsFound}
use Rattle.need_solving.proofs.Lists.{taken}
use Rattle.need_solving.proofs.Putting.{grown_none, grown_both}

abbrev triggers : System → Pair → List Trigger
triggers w x = get_or (lists_in w.rules.triggers) x.node []

pub record IsFiring (w : System) (s t : State) (x : Pair) (k : ℕ) : Type 0 where
  pub holds : IsSoundState w t
  pub grown : Grown s t
  pub next : t.next ≡ s.next
  pub each : (j : ℕ) → j < k → (d : Trigger) → OnEdge (asked w (get_or (get_or (lists_in w.rules.triggers) x.node []) j d) x.object) (IsFound t.edges)

pub on_edge : (o : Option Edge) (P Q : Edge → Type 0) → ((e : Edge) → P e → Q e) → OnEdge o P → OnEdge o Q
on_edge None P Q f h = h
on_edge (Some e) P Q f h = f e h

pub on_some : (o : Option Edge) (e : Edge) (P : Edge → Type 0) → o ≡ Some e → OnEdge o P → P e
on_some o e P q h = subst (λ x. OnEdge x P) q h

pub found_more : (s t : State) (e : Edge) → Grown s t → IsFound s.edges e → IsFound t.edges e
found_more s t e g (inl h) = inl h
found_more s t e g (inr h) = inr (g.edges e.from e.to h)

pub fire_none : (w : System) (s : State) (x : Pair) → IsSoundState w s → IsFiring w s s x 0
fire_none w s x h = record { holds = h; grown = grown_none s; next = refl; each = λ j l. absurd (omega arith) }

on_made : (o : Option Edge) (P : Edge → Type 0) → ((e : Edge) → o ≡ Some e → P e) → OnEdge o P
on_made None P h = tt
on_made (Some e) P h = h e refl

-- what a trigger of a pair asks for is asked for
pub fire_asked : (w : System) (s t : State) (x : Pair) (k : ℕ) (r : Option Trigger) (g : Trigger) → IsFiring w s t x k → is_in s.pairs.rows x.node x.object ≡ true → r ≡ slice_get (get_or (lists_in w.rules.triggers) x.node []) k → r ≡ Some g → OnEdge (asked w g x.object) (IsAsked w t.pairs.rows)
fire_asked w s t x k r g c h f e =
    let i = taken (triggers w x) k g (sym f ∙ e) in
    on_made (asked w g x.object) (IsAsked w t.pairs.rows) (λ a q. inr (record { node = x.node; object = x.object; by = g; listed = (k, i.0, i.1 g); has = c.grown.rows x.node x.object h; asks = q }))

pub fire_next : (w : System) (s t u : State) (x : Pair) (k : ℕ) (r : Option Trigger) (g : Trigger) → IsFiring w s t x k → r ≡ slice_get (get_or (lists_in w.rules.triggers) x.node []) k → r ≡ Some g → IsSoundState w u → Grown t u → u.next ≡ t.next → OnEdge (asked w g x.object) (IsFound u.edges) → IsFiring w s u x (k + 1)
fire_next w s t u x k r g c f e h n z q =
    let i = taken (triggers w x) k g (sym f ∙ e) in
    record {
      holds = h;
      grown = grown_both s t u c.grown n;
      next = z ∙ c.next;
      each = below_more (λ j. (d : Trigger) → OnEdge (asked w (get_or (triggers w x) j d) x.object) (IsFound u.edges)) k
          (λ j l d. on_edge (asked w (get_or (triggers w x) j d) x.object) (IsFound t.edges) (IsFound u.edges) (λ a b. found_more t u a n b) (c.each j l d))
          (λ d. subst (λ (y : Trigger). OnEdge (asked w y x.object) (IsFound u.edges)) (sym (i.1 d)) q);
    }

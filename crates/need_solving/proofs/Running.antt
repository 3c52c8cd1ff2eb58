-- A search, from its beginning to its end.
use Rattle.std.proofs.Common.{◌≡◌, ℕ, zero, suc, ◌+◌, ◌<◌, ◌≤◌, true, List, [], length, get_or, replicate, refl, sym, ap, ◌∙◌, subst, arith, inl, inr, nat_eq}
use Rattle.std.specs.List.{IsDistinct}
use Rattle.std.proofs.lemmas.Bool.{false≢true, cases_lt}
use Rattle.need_numbers.specs.Rows.{Lists, row}
use Rattle.need_sets.specs.declared.rules.Pair.{Pair}
use Rattle.need_sets.specs.declared.rules.Edge.{Edge}
use Rattle.need_sets.specs.declared.rules.Trigger.{Trigger}
use Rattle.need_solving.specs.declared.state.State.{State}
use Rattle.need_sets.specs.declared.system.System.{System}
use Rattle.need_sets.specs.Rules.{Passes, OnEdge, no_edge, lists_in}
use Rattle.need_sets.specs.Solutions.{ObeysAll, is_in}
use Rattle.need_solving.specs.Searching.{asked, pair_at, IsSound, IsSoundState, Grown, IsFound, IsFired, IsLogged}
use Rattle.need_solving.proofs.Putting.{grown_both}
use Rattle.need_solving.proofs.Firing.{on_edge, found_more}

pub none_in : (n a b : ℕ) → is_in (replicate n []) a b ≡ true → ⊥
none_in zero a b e = false≢true e
none_in (suc n) zero b e = false≢true e
none_in (suc n) (suc a) b e = none_in n a b e

none_row : (n a : ℕ) → row (replicate n []) a ≡ []
none_row zero a = refl
none_row (suc n) zero = refl
none_row (suc n) (suc a) = none_row n a

pub sound_none : (w : System) (n m : ℕ) → IsSound w (replicate n []) m [] (replicate n []) 0
unfolding IsDistinct
sound_none w n m = record {
  count = refl;
  next_in = omega arith;
  logged = λ a b h. absurd (none_in n a b h);
  node_in = λ i l. absurd (omega arith);
  object_in = λ i l. absurd (omega arith);
  kept = λ i l. absurd (omega arith);
  targets = λ a b h. absurd (none_in n a b h);
  below = λ Q q a b h. absurd (none_in n a b h);
  justified = λ Q q a b o h i. absurd (none_in n a b h);
  once = λ a. subst (IsDistinct nat_eq) (sym (none_row n a)) tt;
  apart = λ a. subst (IsDistinct nat_eq) (sym (none_row n a)) tt;
  needed = λ a b h. absurd (none_in n a b h);
  counted = λ a. omega arith;
  flows = λ i b l. absurd (omega arith);
}

pub record IsRunning (w : System) (s : State) : Type 0 where
  pub holds : IsSoundState w s
  pub facts : (k : ℕ) → k < length w.rules.facts.items → is_in s.pairs.rows (pair_at w.rules.facts.items k).node (pair_at w.rules.facts.items k).object ≡ true
  pub copies : (k : ℕ) → k < length w.rules.copies.items → IsFound s.edges (get_or w.rules.copies.items k no_edge)
  pub fired : (i : ℕ) → i < s.next → IsFired w s.edges (pair_at s.log i)

pub fired_more : (w : System) (s t : State) (x : Pair) → Grown s t → IsFired w s.edges x → IsFired w t.edges x
fired_more w s t x g f k d l = on_edge (asked w (get_or (get_or (lists_in w.rules.triggers) x.node []) k d) x.object) (IsFound s.edges) (IsFound t.edges) (λ e h. found_more s t e g h) (f k d l)

pub run_next : (w : System) (s t u : State) (x : Pair) → IsRunning w s → x ≡ pair_at s.log s.next → s.next < length s.log → Grown s t → t.next ≡ s.next + 1 → IsSoundState w u → Grown t u → u.next ≡ t.next → IsFired w u.edges x → IsRunning w u
run_next w s t u x r e l g n h v m f = record {
  holds = h;
  facts = λ k i. all.rows _ _ (r.facts k i);
  copies = λ k i. found_more s u _ all (r.copies k i);
  fired = λ i j. elim (cases_lt i s.next) [
    | inl a ↦ subst (IsFired w u.edges) (sym (all.log i (omega arith))) (fired_more w s u (pair_at s.log i) all (r.fired i a))
    | inr a ↦ let q : i ≡ s.next = omega arith in subst (IsFired w u.edges) (e ∙ (sym (all.log s.next l) ∙ ap (pair_at u.log) (sym q))) f
  ];
}
  where
    all : Grown s u
    all = grown_both s t u g v

passes : (w : System) (s : State) (e : Edge) → IsSoundState w s → length s.log ≤ s.next → IsFound s.edges e → Passes (is_in s.pairs.rows) e
passes w s e h l (inl q) o i = subst (λ n. is_in s.pairs.rows n o ≡ true) q i
passes w s e h l (inr q) o i =
    let g = h.logged e.from o i in
    let a = g.in_log in
    subst (λ y. is_in s.pairs.rows e.to y ≡ true) g.object (h.flows g.at e.to (omega arith) (subst (λ n. is_in s.edges n e.to ≡ true) (sym g.node) q))

pub run_all : (w : System) (s : State) → IsRunning w s → length s.log ≤ s.next → ObeysAll w (is_in s.pairs.rows)
run_all w s r l = record {
  facts = r.facts;
  copies = λ k i. passes w s _ r.holds l (r.copies k i);
  triggers = λ n k o d i h. one n k o d i (r.holds.logged n o h);
}
  where
    one : (n k o : ℕ) (d : Trigger) → k < length (get_or (lists_in w.rules.triggers) n []) → IsLogged s.log n o → OnEdge (asked w (get_or (get_or (lists_in w.rules.triggers) n []) k d) o) (Passes (is_in s.pairs.rows))
    one n k o d i g =
        let a = g.in_log in
        let f : IsFired w s.edges (pair_at s.log g.at) = r.fired g.at (omega arith) in
        let at_node = subst (λ m. (k : ℕ) (d : Trigger) → k < length (get_or (lists_in w.rules.triggers) m []) → OnEdge (asked w (get_or (get_or (lists_in w.rules.triggers) m []) k d) (pair_at s.log g.at).object) (IsFound s.edges)) g.node f in
        let at_object = subst (λ x. OnEdge (asked w (get_or (get_or (lists_in w.rules.triggers) n []) k d) x) (IsFound s.edges)) g.object (at_node k d i) in
        on_edge (asked w (get_or (get_or (lists_in w.rules.triggers) n []) k d) o) (IsFound s.edges) (Passes (is_in s.pairs.rows)) (λ e b. passes w s e r.holds l b) at_object

pub run_begin : (w : System) (s t u : State) → IsSoundState w u → Grown t u → ((k : ℕ) → k < length w.rules.facts.items → is_in t.pairs.rows (pair_at w.rules.facts.items k).node (pair_at w.rules.facts.items k).object ≡ true) → ((k : ℕ) → k < length w.rules.copies.items → IsFound u.edges (get_or w.rules.copies.items k no_edge)) → s.next ≡ 0 → t.next ≡ s.next → u.next ≡ t.next → IsRunning w u
run_begin w s t u h g fs cs a b c = record { holds = h; facts = λ k l. g.rows _ _ (fs k l); copies = cs; fired = λ i l. absurd (omega arith) }

pub sound_begin : (w : System) (rows edges : Lists) (objects : ℕ) (l : List Pair) (n m : ℕ) → rows ≡ replicate n [] → objects ≡ m → l ≡ [] → edges ≡ replicate n [] → IsSound w rows objects l edges 0
sound_begin w rows edges objects l n m a b c d =
    subst (λ r. IsSound w r objects l edges 0) (sym a)
    (subst (λ o. IsSound w (replicate n []) o l edges 0) (sym b)
    (subst (λ x. IsSound w (replicate n []) m x edges 0) (sym c)
    (subst (λ e. IsSound w (replicate n []) m [] e 0) (sym d) (sound_none w n m))))

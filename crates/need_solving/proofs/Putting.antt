-- One pair more.
use Rattle.std.proofs.Common.{◌≡◌, ℕ, zero, suc, ◌+◌, ◌<◌, ◌≤◌, Bool, true, false, List, [], ◌∷◌, ◌++◌, length, set, nat_eq, refl, sym, ap, ◌∙◌, subst, arith, if◌then◌else◌, ◌⊎◌, inl, inr}
use Rattle.std.proofs.lemmas.List.{length-set}
use Rattle.std.proofs.lemmas.Bool.{eqb-true}
use Rattle.need_numbers.specs.Rows.{Lists, row, added}
use Rattle.need_sets.specs.declared.rules.Pair.{Pair}
use Rattle.need_solving.specs.declared.state.State.{State}
use Rattle.need_sets.specs.declared.system.System.{System}
use Rattle.need_sets.specs.Rules.{Relation}
use Rattle.need_sets.specs.Solutions.{ObeysAll, is_in, IsAsked, IsNeeded}
use Rattle.need_solving.specs.Searching.{pair_at, IsLogged, one_if, handled, IsSound, IsSoundState, Grown, IsPut}
use Rattle.need_sets.specs.declared.rules.Edge.{Edge}
use Rattle.need_solving.proofs.Handled.{handled_same}
use Rattle.need_solving.proofs.Lists.{put_cases, put_kept, put_new, put_more, put_longer, put_distinct, added_kept, added_new, added_count, added_longer}

before_end : (l : List Pair) (p : Pair) (i : ℕ) → i < length l → pair_at (l ++ p ∷ []) i ≡ pair_at l i
before_end [] p i h = absurd (omega arith)
before_end (x ∷ l) p zero h = refl
before_end (x ∷ l) p (suc i) h = before_end l p i (omega arith)

at_end : (l : List Pair) (p : Pair) → pair_at (l ++ p ∷ []) (length l) ≡ p
at_end [] p = refl
at_end (x ∷ l) p = at_end l p

end_cases : (l : List Pair) (p : Pair) (i : ℕ) → i < length (l ++ p ∷ []) → (i < length l) ⊎ (i ≡ length l)
end_cases [] p zero h = inr refl
end_cases [] p (suc i) h = absurd (omega arith)
end_cases (x ∷ l) p zero h = inl (omega arith)
end_cases (x ∷ l) p (suc i) h = elim (end_cases l p i (omega arith)) [ inl g ↦ inl (omega arith) | inr g ↦ inr (ap suc g) ]

pub each_end : (P : Pair → Type 0) (l : List Pair) (p : Pair) → ((i : ℕ) → i < length l → P (pair_at l i)) → P p → (i : ℕ) → i < length (l ++ p ∷ []) → P (pair_at (l ++ p ∷ []) i)
each_end P l p h e i b = elim (end_cases l p i b) [ inl g ↦ subst P (sym (before_end l p i g)) (h i g) | inr g ↦ subst P (sym (ap (pair_at (l ++ p ∷ [])) g ∙ at_end l p)) e ]

longer : (l : List Pair) (p : Pair) → length (l ++ p ∷ []) ≡ suc (length l)
longer [] p = refl
longer (x ∷ l) p = ap suc (longer l p)

logged_more : (l : List Pair) (p : Pair) (n o : ℕ) → IsLogged l n o → IsLogged (l ++ p ∷ []) n o
logged_more l p n o h = let q = h.in_log in let u = longer l p in record {
  at = h.at;
  in_log = omega arith;
  node = ap (λ (x : Pair). x.node) (before_end l p h.at h.in_log) ∙ h.node;
  object = ap (λ (x : Pair). x.object) (before_end l p h.at h.in_log) ∙ h.object;
}

logged_end : (l : List Pair) (n o m x : ℕ) → m ≡ n → x ≡ o → IsLogged (l ++ record { node = n; object = o } ∷ []) m x
logged_end l n o m x e f = let u = longer l (record { node = n; object = o }) in record {
  at = length l;
  in_log = omega arith;
  node = ap (λ (y : Pair). y.node) (at_end l (record { node = n; object = o })) ∙ sym e;
  object = ap (λ (y : Pair). y.object) (at_end l (record { node = n; object = o })) ∙ sym f;
}

-- what was asked for is still asked for
pub still_asked : (w : System) (rows more : Lists) (e : Edge) → ((n o : ℕ) → is_in rows n o ≡ true → is_in more n o ≡ true) → IsAsked w rows e → IsAsked w more e
still_asked w rows more e h (inl i) = inl i
still_asked w rows more e h (inr t) = inr (record { node = t.node; object = t.object; by = t.by; listed = t.listed; has = h t.node t.object t.has; asks = t.asks })

pub still_needed : (w : System) (rows more : Lists) (a b : ℕ) → ((n o : ℕ) → is_in rows n o ≡ true → is_in more n o ≡ true) → IsNeeded w rows a b → IsNeeded w more a b
still_needed w rows more a b h n = record { apart = n.apart; asked = still_asked w rows more (record { from = a; to = b }) h n.asked }

-- one pair more is handled once
counted_new : (rows : Lists) (l : List Pair) (n o a : ℕ) → ((m : ℕ) → handled m (length l) l ≤ length (row rows m)) → n < length rows
    → handled a (length (l ++ record { node = n; object = o } ∷ [])) (l ++ record { node = n; object = o } ∷ []) ≤ length (row (set rows n (row rows n ++ o ∷ [])) a)
counted_new rows l n o a h b =
    subst (λ k. handled a k (l ++ record { node = n; object = o } ∷ []) ≤ length (row (set rows n (row rows n ++ o ∷ [])) a)) (sym (longer l (record { node = n; object = o }))) (
    let same = handled_same a (length l) l (l ++ record { node = n; object = o } ∷ []) (λ i j. before_end l (record { node = n; object = o }) i j) in
    let last : one_if (nat_eq (pair_at (l ++ record { node = n; object = o } ∷ []) (length l)).node a) ≡ one_if (nat_eq n a) = ap (λ (p : Pair). one_if (nat_eq p.node a)) (at_end l (record { node = n; object = o })) in
    let old = h a in
    by (nat_eq n a) refl same last old)
  where
    by : (c : Bool) → nat_eq n a ≡ c → handled a (length l) (l ++ record { node = n; object = o } ∷ []) ≡ handled a (length l) l
        → one_if (nat_eq (pair_at (l ++ record { node = n; object = o } ∷ []) (length l)).node a) ≡ one_if (nat_eq n a) → handled a (length l) l ≤ length (row rows a)
        → handled a (suc (length l)) (l ++ record { node = n; object = o } ∷ []) ≤ length (row (set rows n (row rows n ++ o ∷ [])) a)
    by true q same last old =
        let e : n ≡ a = eqb-true n a q in
        let one : one_if (nat_eq n a) ≡ 1 = ap one_if q in
        let more : length (row (set rows n (row rows n ++ o ∷ [])) a) ≡ length (row rows a) + 1 = subst (λ x. length (row (set rows n (row rows n ++ o ∷ [])) x) ≡ length (row rows x) + 1) e (put_more rows n o b) in
        omega arith
    by false q same last old =
        let none : one_if (nat_eq n a) ≡ 0 = ap one_if q in
        let grown = put_longer rows n o a in
        omega arith

sound_new : (w : System) (rows : Lists) (objects : ℕ) (l : List Pair) (edges : Lists) (next n o : ℕ) → IsSound w rows objects l edges next → n < length rows → o < objects → is_in rows n o ≡ false → ((Q : Relation) → ObeysAll w Q → Q n o ≡ true)
    → IsSound w (set rows n (row rows n ++ o ∷ [])) objects (l ++ record { node = n; object = o } ∷ []) edges next
sound_new w rows objects l edges next n o g a b new allowed =
    let e = length-set rows n (row rows n ++ o ∷ []) in
    let u = longer l (record { node = n; object = o }) in
    let y = g.next_in in
    record {
      count = g.count ∙ sym e;
      next_in = omega arith;
      logged = λ m x h. elim (put_cases rows n o m x h) [ inl q ↦ logged_more l (record { node = n; object = o }) m x (g.logged m x q) | inr q ↦ logged_end l n o m x q.0 q.1 ];
      node_in = each_end (λ p. p.node < length (set rows n (row rows n ++ o ∷ []))) l (record { node = n; object = o }) (λ i h. let v = g.node_in i h in omega arith) (omega arith);
      object_in = each_end (λ p. p.object < objects) l (record { node = n; object = o }) g.object_in b;
      kept = each_end (λ p. is_in (set rows n (row rows n ++ o ∷ [])) p.node p.object ≡ true) l (record { node = n; object = o }) (λ i h. put_kept rows n o _ _ (g.kept i h)) (put_new rows n o a);
      targets = λ m x h. let v = g.targets m x h in omega arith;
      below = λ Q q m x h. elim (put_cases rows n o m x h) [ inl v ↦ g.below Q q m x v | inr v ↦ subst (λ i. Q i x ≡ true) (sym v.0) (subst (λ i. Q n i ≡ true) (sym v.1) (allowed Q q)) ];
      justified = g.justified;
      once = g.once;
      apart = put_distinct rows n o g.apart new;
      needed = λ x y h. still_needed w rows (set rows n (row rows n ++ o ∷ [])) x y (λ m z i. put_kept rows n o m z i) (g.needed x y h);
      counted = λ m. counted_new rows l n o m g.counted a;
      flows = λ i m h q. let v : i < length l = omega arith in let r = before_end l (record { node = n; object = o }) i v in
          subst (λ (p : Pair). is_in (set rows n (row rows n ++ o ∷ [])) m p.object ≡ true) (sym r) (put_kept rows n o m _ (g.flows i m h (subst (λ (p : Pair). is_in edges p.node m ≡ true) r q)));
    }

sound_put : (w : System) (rows : Lists) (objects : ℕ) (l : List Pair) (edges : Lists) (next n o : ℕ) → IsSound w rows objects l edges next → n < length rows → o < objects → ((Q : Relation) → ObeysAll w Q → Q n o ≡ true)
    → IsSound w (added rows n o) objects (if is_in rows n o then l else l ++ record { node = n; object = o } ∷ []) edges next
sound_put w rows objects l edges next n o g a b allowed = pick (is_in rows n o) refl
  where
    pick : (c : Bool) → is_in rows n o ≡ c → IsSound w (if c then rows else set rows n (row rows n ++ o ∷ [])) objects (if c then l else l ++ record { node = n; object = o } ∷ []) edges next
    pick true e = g
    pick false e = sound_new w rows objects l edges next n o g a b e allowed

pub holds_put : (w : System) (s t : State) (n o : ℕ) → IsSoundState w s → IsPut s t n o → n < length s.pairs.rows → o < s.pairs.objects → ((Q : Relation) → ObeysAll w Q → Q n o ≡ true) → IsSoundState w t
holds_put w s t n o h q a b allowed =
    subst (λ r. IsSound w r t.pairs.objects t.log t.edges t.next) (sym q.rows)
    (subst (λ m. IsSound w (added s.pairs.rows n o) m t.log t.edges t.next) (sym q.objects)
    (subst (λ l. IsSound w (added s.pairs.rows n o) s.pairs.objects l t.edges t.next) (sym q.log)
    (subst (λ e. IsSound w (added s.pairs.rows n o) s.pairs.objects (if is_in s.pairs.rows n o then s.log else s.log ++ record { node = n; object = o } ∷ []) e t.next) (sym q.edges)
    (subst (λ k. IsSound w (added s.pairs.rows n o) s.pairs.objects (if is_in s.pairs.rows n o then s.log else s.log ++ record { node = n; object = o } ∷ []) s.edges k) (sym q.next)
    (sound_put w s.pairs.rows s.pairs.objects s.log s.edges s.next n o h a b allowed)))))

log_longer : (b : Bool) (l : List Pair) (p : Pair) → length l ≤ length (if b then l else l ++ p ∷ [])
log_longer true l p = omega arith
log_longer false l p = let u = longer l p in omega arith

log_kept : (b : Bool) (l : List Pair) (p : Pair) (i : ℕ) → i < length l → pair_at (if b then l else l ++ p ∷ []) i ≡ pair_at l i
log_kept true l p i h = refl
log_kept false l p i h = before_end l p i h

pub grown_put : (s t : State) (n o : ℕ) → IsPut s t n o → Grown s t
grown_put s t n o q = record {
  rows = λ m x h. subst (λ r. is_in r m x ≡ true) (sym q.rows) (added_kept s.pairs.rows n o m x h);
  edges = λ a b h. subst (λ r. is_in r a b ≡ true) (sym q.edges) h;
  log_count = subst (λ (l : List Pair). length s.log ≤ length l) (sym q.log) (log_longer (is_in s.pairs.rows n o) s.log (record { node = n; object = o }));
  log = λ i h. ap (λ (l : List Pair). pair_at l i) q.log ∙ log_kept (is_in s.pairs.rows n o) s.log (record { node = n; object = o }) i h;
  count = ap length q.rows ∙ added_count s.pairs.rows n o;
  objects = q.objects;
  lengths = λ m. subst (λ (r : Lists). length (row s.pairs.rows m) ≤ length (row r m)) (sym q.rows) (added_longer s.pairs.rows n o m);
}

pub has_put : (s t : State) (n o : ℕ) → IsPut s t n o → n < length s.pairs.rows → is_in t.pairs.rows n o ≡ true
has_put s t n o q l = subst (λ r. is_in r n o ≡ true) (sym q.rows) (added_new s.pairs.rows n o l)

pub grown_none : (s : State) → Grown s s
grown_none s = record { rows = λ n o h. h; edges = λ a b h. h; log_count = omega arith; log = λ i h. refl; count = refl; objects = refl; lengths = λ n. omega arith }

pub grown_both : (s t u : State) → Grown s t → Grown t u → Grown s u
grown_both s t u g h = let a = g.log_count in let b = h.log_count in record {
  rows = λ n o q. h.rows n o (g.rows n o q);
  edges = λ n o q. h.edges n o (g.edges n o q);
  log_count = omega arith;
  log = λ i q. h.log i (omega arith) ∙ g.log i q;
  count = h.count ∙ g.count;
  objects = h.objects ∙ g.objects;
  lengths = λ n. let x = g.lengths n in let y = h.lengths n in omega arith;
}

-- What rules over numbers ask is what demands ask of sets.
use Rattle.std.proofs.Common.{◌≡◌, ℕ, ◌<◌, Bool, true, false, ◌&&◌, [], get_or, length, Option, Some, None, refl, sym, ap, ◌∙◌, subst, nat_lt, if◌then◌else◌}
use Rattle.std.specs.Prelude.{Contains}
use Rattle.std.proofs.lemmas.Bool.{false≢true, ltb-true, lt-ltb, and_parts, and_from}
use Rattle.std.proofs.lemmas.List.{get_or_default}
use Rattle.std.proofs.lemmas.List.Elements.{Contains-get_or}
use Rattle.ir_model.proofs.SameTypes.{same_exactly}
use Rattle.ir_model.specs.Types.{PlainType, same}
use Rattle.ir_model.specs.Resolved.{Program, register_type}
use Rattle.ir_model.specs.State.{Object, FunctionObject}
use Rattle.ir_model.specs.Signatures.{signature}
use Rattle.ir_laws.specs.Sets.{Node, Register, Content, Outcome, ObjectSets, IsWithin, carries}
use Rattle.need_numbers.specs.Groups.{place_of}
use Rattle.need_sets.specs.Numbers.{GroupCounts, object_number, node_number, content_number, numbering_of}
use Rattle.need_numbers.specs.Rows.{Lists}
use Rattle.need_sets.specs.Pairs.{is_pair, sets_by}
use Rattle.need_numbers.proofs.GroupPlaces.{some_is, none_is}
use Rattle.need_sets.specs.declared.rules.Pair.{Pair}
use Rattle.need_sets.specs.declared.rules.Trigger.{Trigger}
use Rattle.need_sets.specs.declared.rules.Trigger.TheVariants as trigger
use Rattle.need_sets.specs.declared.rules.Rules.{Rules}
use Rattle.need_sets.specs.Rules.{Relation, Passes, OnEdge, Obeys, no_pair, no_edge, edge_of, edge_to, edge_from, of_callee, callee_of, parameter_of, outcome_of, lists_in}
use Rattle.need_sets.specs.Solutions.{is_in}
use Rattle.need_sets.specs.Demands.{Demand, HasObject, PassesOn, LoadsTo, StoresFrom, GivesTo, TakesFrom, Meets, demands_of}
use Rattle.need_sets.specs.Gathered.{Item, Fact, Copy, Asks, HasItem, IsNumbered, Represents}
use Rattle.need_points_to.proofs.Back.{object_from, node_from, object_back, node_back, content_back, content_there, register_there, callee_there, callee_back}
use Rattle.base_laws.proofs.Options.{guarded}

abbrev pub ItemObeyed : Program → Relation → Item → Type 0
ItemObeyed p Q (Fact x) = Q x.node x.object ≡ true
ItemObeyed p Q (Copy e) = Passes Q e
ItemObeyed p Q (Asks n t) = (o : ℕ) → Q n o ≡ true → OnEdge (edge_of p (numbering_of p) t o) (Passes Q)

module _ (p : Program) where
  abbrev pub c : GroupCounts
  c = numbering_of p

  -- ---- sets as numbers say

  abbrev pub by_numbers : ObjectSets → Relation
  by_numbers S i j = S (node_from c i) (object_from c j)

  at_numbers : (S : ObjectSets) (n : Node) (i o : ℕ) → node_number c n ≡ Some i → by_numbers S i o ≡ S n (object_from c o)
  at_numbers S n i o e = ap (λ m. S m (object_from c o)) (node_back c n i e)

  passes_on : (S : ObjectSets) (a b : Node) (i j : ℕ) → node_number c a ≡ Some i → node_number c b ≡ Some j → IsWithin S a b → Passes (by_numbers S) (record { from = i; to = j })
  passes_on S a b i j e f h o q = at_numbers S b j o f ∙ h (object_from c o) (sym (at_numbers S a i o e) ∙ q)

  load_obeyed : (S : ObjectSets) (to : Node) (i j o : ℕ) (r : Option ℕ) → node_number c to ≡ Some j → place_of c.nodes c.funcs o ≡ r → IsWithin S (Content (object_from c o)) to → OnEdge (edge_from r j) (Passes (by_numbers S))
  load_obeyed S to i j o None e f h = tt
  load_obeyed S to i j o (Some a) e f h = λ m q. at_numbers S to j m e ∙ h (object_from c m) (sym (ap (λ n. S n (object_from c m)) (content_back c o a f)) ∙ q)

  store_obeyed : (S : ObjectSets) (from : Node) (i j o : ℕ) (r : Option ℕ) → node_number c from ≡ Some j → place_of c.nodes c.funcs o ≡ r → IsWithin S from (Content (object_from c o)) → OnEdge (edge_to j r) (Passes (by_numbers S))
  store_obeyed S from i j o None e f h = tt
  store_obeyed S from i j o (Some a) e f h = λ m q. ap (λ n. S n (object_from c m)) (content_back c o a f) ∙ h (object_from c m) (sym (at_numbers S from j m e) ∙ q)

  given_to : (S : ObjectSets) (from : Node) (j g k : ℕ) (t : PlainType) (b : Bool) (r : Option ℕ) → same (signature p g) t && carries (register_type p g k) ≡ b → node_number c (Register g k) ≡ r → node_number c from ≡ Some j
      → (g < length p.funcs → signature p g ≡ t → carries (register_type p g k) ≡ true → IsWithin S from (Register g k)) → OnEdge (edge_to j (if b then r else None)) (Passes (by_numbers S))
  given_to S from j g k t false r s e f h = tt
  given_to S from j g k t true None s e f h = tt
  given_to S from j g k t true (Some b) s e f h =
      let l = ltb-true g (length p.funcs) (guarded (nat_lt g (length p.funcs)) (place_of c.nodes g k) b e).0 in
      let w = and_parts (same (signature p g) t) (carries (register_type p g k)) s in
      passes_on S from (Register g k) j b f e (h l ((same_exactly (signature p g) t).0 w.0) w.1)

  given_obeyed : (S : ObjectSets) (n from : Node) (t : PlainType) (i j k o : ℕ) (r : Option ℕ) → node_number c n ≡ Some i → node_number c from ≡ Some j → callee_of c o ≡ r → S n (object_from c o) ≡ true
      → ((g : ℕ) → S n (FunctionObject g) ≡ true → signature p g ≡ t → carries (register_type p g k) ≡ true → IsWithin S from (Register g k)) → OnEdge (edge_to j (of_callee r (λ g. parameter_of p c t g k))) (Passes (by_numbers S))
  given_obeyed S n from t i j k o None e f q s h = tt
  given_obeyed S n from t i j k o (Some g) e f q s h =
      given_to S from j g k t (same (signature p g) t && carries (register_type p g k)) (node_number c (Register g k)) refl refl f
      (λ l. h g (subst (λ x. S n x ≡ true) (callee_back p o g q l) s))

  taken_from : (S : ObjectSets) (to : Node) (j g : ℕ) (t : PlainType) (b : Bool) (r : Option ℕ) → nat_lt g (length p.funcs) && same (signature p g) t ≡ b → node_number c (Outcome g) ≡ r → node_number c to ≡ Some j
      → (g < length p.funcs → signature p g ≡ t → IsWithin S (Outcome g) to) → OnEdge (edge_from (if b then r else None) j) (Passes (by_numbers S))
  taken_from S to j g t false r s e f h = tt
  taken_from S to j g t true None s e f h = tt
  taken_from S to j g t true (Some a) s e f h =
      let w = and_parts (nat_lt g (length p.funcs)) (same (signature p g) t) s in
      passes_on S (Outcome g) to a j e f (h (ltb-true g (length p.funcs) w.0) ((same_exactly (signature p g) t).0 w.1))

  taken_obeyed : (S : ObjectSets) (n to : Node) (t : PlainType) (i j o : ℕ) (r : Option ℕ) → node_number c n ≡ Some i → node_number c to ≡ Some j → callee_of c o ≡ r → S n (object_from c o) ≡ true
      → ((g : ℕ) → S n (FunctionObject g) ≡ true → signature p g ≡ t → IsWithin S (Outcome g) to) → OnEdge (edge_from (of_callee r (outcome_of p c t)) j) (Passes (by_numbers S))
  taken_obeyed S n to t i j o None e f q s h = tt
  taken_obeyed S n to t i j o (Some g) e f q s h =
      taken_from S to j g t (nat_lt g (length p.funcs) && same (signature p g) t) (node_number c (Outcome g)) refl refl f
      (λ l. h g (subst (λ x. S n x ≡ true) (callee_back p o g q l) s))

  pub obeyed : (S : ObjectSets) (d : Demand) (x : Item) → IsNumbered c d x → Meets p S d → ItemObeyed p (by_numbers S) x
  obeyed S (HasObject n o) (Fact x) e h = at_numbers S n x.node x.object e.0 ∙ (ap (S n) (object_back c o x.object e.1) ∙ h)
  obeyed S (PassesOn a b) (Copy x) e h = passes_on S a b x.from x.to e.0 e.1 h
  obeyed S (LoadsTo n to) (Asks i (trigger.Load j)) e h = λ o q. load_obeyed S to i j o (place_of c.nodes c.funcs o) e.1 refl (h (object_from c o) (sym (at_numbers S n i o e.0) ∙ q))
  obeyed S (StoresFrom n from) (Asks i (trigger.Store j)) e h = λ o q. store_obeyed S from i j o (place_of c.nodes c.funcs o) e.1 refl (h (object_from c o) (sym (at_numbers S n i o e.0) ∙ q))
  obeyed S (GivesTo n t from k) (Asks i (trigger.Argument u j m)) e h = λ o q.
      subst (λ y. OnEdge (edge_to j (of_callee (callee_of c o) (λ g. parameter_of p c y g m))) (Passes (by_numbers S))) (sym e.2)
      (subst (λ y. OnEdge (edge_to j (of_callee (callee_of c o) (λ g. parameter_of p c t g y))) (Passes (by_numbers S))) (sym e.3)
      (given_obeyed S n from t i j k o (callee_of c o) e.0 e.1 refl (sym (at_numbers S n i o e.0) ∙ q) h))
  obeyed S (TakesFrom n t to) (Asks i (trigger.Outcome u j)) e h = λ o q.
      subst (λ y. OnEdge (edge_from (of_callee (callee_of c o) (outcome_of p c y)) j) (Passes (by_numbers S))) (sym e.2)
      (taken_obeyed S n to t i j o (callee_of c o) e.0 e.1 refl (sym (at_numbers S n i o e.0) ∙ q) h)
  obeyed S _ _ e h = absurd e

  -- ---- numbers as sets

  none_pair : (rows : Lists) (i : Option ℕ) → is_pair rows i None ≡ true → ⊥
  none_pair rows None e = false≢true e
  none_pair rows (Some i) e = false≢true e

  no_node : (rows : Lists) (r : Option ℕ) → is_pair rows None r ≡ true → ⊥
  no_node rows r e = false≢true e

  within_by : (rows : Lists) (i j : ℕ) (a b r : Option ℕ) → a ≡ Some i → b ≡ Some j → Passes (is_in rows) (record { from = i; to = j }) → is_pair rows a r ≡ true → is_pair rows b r ≡ true
  within_by rows i j a b None e f h q = absurd (none_pair rows a q)
  within_by rows i j a b (Some m) e f h q = ap (λ x. is_pair rows x (Some m)) f ∙ h m (sym (ap (λ x. is_pair rows x (Some m)) e) ∙ q)

  within : (rows : Lists) (a b : Node) (i j : ℕ) → node_number c a ≡ Some i → node_number c b ≡ Some j → Passes (is_in rows) (record { from = i; to = j }) → IsWithin (sets_by c rows) a b
  within rows a b i j e f h o q = within_by rows i j (node_number c a) (node_number c b) (object_number c o) e f h q

  -- the number of an object that a node has
  numbered_by : (rows : Lists) (i : ℕ) (a r : Option ℕ) → a ≡ Some i → is_pair rows a r ≡ true → (m : ℕ) × (r ≡ Some m) × (is_in rows i m ≡ true)
  numbered_by rows i a None e q = absurd (none_pair rows a q)
  numbered_by rows i a (Some m) e q = (m, refl, sym (ap (λ x. is_pair rows x (Some m)) e) ∙ q)

  numbered : (rows : Lists) (n : Node) (i : ℕ) (o : Object) → node_number c n ≡ Some i → sets_by c rows n o ≡ true → (m : ℕ) × (object_number c o ≡ Some m) × (is_in rows i m ≡ true)
  numbered rows n i o e q = numbered_by rows i (node_number c n) (object_number c o) e q

  content_is : (o : Object) (m : ℕ) (r : Option ℕ) → object_number c o ≡ Some m → place_of c.nodes c.funcs m ≡ r → node_number c (Content o) ≡ r
  content_is o m r e f = at (object_number c o) e
    where
      at : (x : Option ℕ) → x ≡ Some m → content_number c x ≡ r
      at None q = absurd (none_is None m refl q)
      at (Some k) q = ap (place_of c.nodes c.funcs) (some_is k m q) ∙ f

  load_met : (rows : Lists) (to : Node) (j m : ℕ) (o : Object) (r : Option ℕ) → node_number c to ≡ Some j → object_number c o ≡ Some m → place_of c.nodes c.funcs m ≡ r → OnEdge (edge_from r j) (Passes (is_in rows)) → IsWithin (sets_by c rows) (Content o) to
  load_met rows to j m o None e f g h = λ x q. absurd (no_node rows (object_number c x) (subst (λ y. is_pair rows y (object_number c x) ≡ true) (content_is o m None f g) q))
  load_met rows to j m o (Some a) e f g h = within rows (Content o) to a j (content_is o m (Some a) f g) e h

  store_met : (rows : Lists) (from : Node) (j m a : ℕ) (o : Object) → node_number c from ≡ Some j → object_number c o ≡ Some m → place_of c.nodes c.funcs m ≡ Some a → OnEdge (edge_to j (place_of c.nodes c.funcs m)) (Passes (is_in rows)) → IsWithin (sets_by c rows) from (Content o)
  store_met rows from j m a o e f g h = within rows from (Content o) j a e (content_is o m (Some a) f g) (subst (λ r. OnEdge (edge_to j r) (Passes (is_in rows))) g h)

  called_true : (g k : ℕ) (t : PlainType) → signature p g ≡ t → carries (register_type p g k) ≡ true → same (signature p g) t && carries (register_type p g k) ≡ true
  called_true g k t e h = and_from (same (signature p g) t) (carries (register_type p g k)) ((same_exactly (signature p g) t).1 e) h

  parameter_is : (b : Bool) (r : Option ℕ) → b ≡ true → (if b then r else None) ≡ r
  parameter_is true r e = refl
  parameter_is false r e = absurd (false≢true e)

  given_met : (rows : Lists) (from : Node) (t : PlainType) (j k m g : ℕ) → node_number c from ≡ Some j → object_number c (FunctionObject g) ≡ Some m → signature p g ≡ t → carries (register_type p g k) ≡ true
      → OnEdge (edge_to j (of_callee (callee_of c m) (λ x. parameter_of p c t x k))) (Passes (is_in rows)) → IsWithin (sets_by c rows) from (Register g k)
  given_met rows from t j k m g e f s h q =
      let a = callee_there p g m f in
      let b = register_there p g k h in
      within rows from (Register g k) j b.0 e b.1
      (subst (λ r. OnEdge (edge_to j r) (Passes (is_in rows)))
      (ap (λ r. of_callee r (λ x. parameter_of p c t x k)) a.0 ∙ (parameter_is (same (signature p g) t && carries (register_type p g k)) (node_number c (Register g k)) (called_true g k t s h) ∙ b.1)) q)

  outcome_met : (rows : Lists) (to : Node) (j g : ℕ) (r : Option ℕ) → node_number c to ≡ Some j → node_number c (Outcome g) ≡ r → OnEdge (edge_from r j) (Passes (is_in rows)) → IsWithin (sets_by c rows) (Outcome g) to
  outcome_met rows to j g None e f h = λ x q. absurd (no_node rows (object_number c x) (subst (λ y. is_pair rows y (object_number c x) ≡ true) f q))
  outcome_met rows to j g (Some a) e f h = within rows (Outcome g) to a j f e h

  taken_met : (rows : Lists) (to : Node) (t : PlainType) (j m g : ℕ) → node_number c to ≡ Some j → object_number c (FunctionObject g) ≡ Some m → signature p g ≡ t
      → OnEdge (edge_from (of_callee (callee_of c m) (outcome_of p c t)) j) (Passes (is_in rows)) → IsWithin (sets_by c rows) (Outcome g) to
  taken_met rows to t j m g e f s q =
      let a = callee_there p g m f in
      let l = lt-ltb g (length p.funcs) a.1 in
      let w = and_from (nat_lt g (length p.funcs)) (same (signature p g) t) l ((same_exactly (signature p g) t).1 s) in
      outcome_met rows to j g (node_number c (Outcome g)) e refl
      (subst (λ r. OnEdge (edge_from r j) (Passes (is_in rows)))
      (ap (λ r. of_callee r (outcome_of p c t)) a.0 ∙ parameter_is (nat_lt g (length p.funcs) && same (signature p g) t) (node_number c (Outcome g)) w) q)

  pub met : (rows : Lists) (d : Demand) (x : Item) → IsNumbered c d x → ItemObeyed p (is_in rows) x → Meets p (sets_by c rows) d
  met rows (HasObject n o) (Fact x) e h = ap (λ r. is_pair rows r (object_number c o)) e.0 ∙ (ap (is_pair rows (Some x.node)) e.1 ∙ h)
  met rows (PassesOn a b) (Copy x) e h = within rows a b x.from x.to e.0 e.1 h
  met rows (LoadsTo n to) (Asks i (trigger.Load j)) e h = λ o q. let m = numbered rows n i o e.0 q in load_met rows to j m.0 o (place_of c.nodes c.funcs m.0) e.1 m.1 refl (h m.0 m.2)
  met rows (StoresFrom n from) (Asks i (trigger.Store j)) e h = λ o q. let m = numbered rows n i o e.0 q in let a = content_there p o m.0 m.1 in store_met rows from j m.0 a.0 o e.1 m.1 a.1 (h m.0 m.2)
  met rows (GivesTo n t from k) (Asks i (trigger.Argument u j y)) e h = λ g q s w.
      let m = numbered rows n i (FunctionObject g) e.0 q in
      given_met rows from t j k m.0 g e.1 m.1 s w
      (subst (λ z. OnEdge (edge_to j (of_callee (callee_of c m.0) (λ x. parameter_of p c t x z))) (Passes (is_in rows))) e.3
      (subst (λ z. OnEdge (edge_to j (of_callee (callee_of c m.0) (λ x. parameter_of p c z x y))) (Passes (is_in rows))) e.2 (h m.0 m.2)))
  met rows (TakesFrom n t to) (Asks i (trigger.Outcome u j)) e h = λ g q s.
      let m = numbered rows n i (FunctionObject g) e.0 q in
      taken_met rows to t j m.0 g e.1 m.1 s (subst (λ z. OnEdge (edge_from (of_callee (callee_of c m.0) (outcome_of p c z)) j) (Passes (is_in rows))) e.2 (h m.0 m.2))
  met rows _ _ e h = absurd e

  -- ---- all rules

  pub items_obeyed : (r : Rules) (Q : Relation) → Obeys p c r.facts.items r.copies.items (lists_in r.triggers) Q → (x : Item) → HasItem r x → ItemObeyed p Q x
  items_obeyed r Q h (Fact x) i = subst (λ (y : Pair). Q y.node y.object ≡ true) (get_or_default r.facts.items i.0 no_pair x i.1 ∙ i.2) (h.facts i.0 i.1)
  items_obeyed r Q h (Copy x) i = subst (Passes Q) (get_or_default r.copies.items i.0 no_edge x i.1 ∙ i.2) (h.copies i.0 i.1)
  items_obeyed r Q h (Asks n t) i = λ o q. subst (λ (y : Trigger). OnEdge (edge_of p c y o) (Passes Q)) i.2 (h.triggers n i.0 o t i.1 q)

  pub obeys_from : (r : Rules) (Q : Relation) → ((x : Item) → HasItem r x → ItemObeyed p Q x) → Obeys p c r.facts.items r.copies.items (lists_in r.triggers) Q
  obeys_from r Q h = record {
    facts = λ k l. h (Fact (get_or r.facts.items k no_pair)) (Contains-get_or r.facts.items k no_pair l);
    copies = λ k l. h (Copy (get_or r.copies.items k no_edge)) (Contains-get_or r.copies.items k no_edge l);
    triggers = λ n k o d l q. h (Asks n (get_or (get_or (lists_in r.triggers) n []) k d)) (Contains-get_or (get_or (lists_in r.triggers) n []) k d l) o q;
  }

  pub all_met : (r : Rules) (rows : Lists) → Represents c r (demands_of p) → Obeys p c r.facts.items r.copies.items (lists_in r.triggers) (is_in rows) → (d : Demand) → Contains (demands_of p) d → Meets p (sets_by c rows) d
  all_met r rows h q d i = let m = h.all d i in met rows d m.item m.is (items_obeyed r (is_in rows) q m.item m.there)

  pub all_obeyed : (r : Rules) (S : ObjectSets) → Represents c r (demands_of p) → ((d : Demand) → Contains (demands_of p) d → Meets p S d) → Obeys p c r.facts.items r.copies.items (lists_in r.triggers) (by_numbers S)
  all_obeyed r S h q = obeys_from r (by_numbers S) (λ x i. let m = h.each x i in obeyed S m.demand x m.is (q m.demand m.listed))

-- The edges of a search are those of the program.
use Rattle.std.proofs.Common.{◌≡◌, ◌≢◌, ℕ, ◌<◌, Bool, true, false, ◌&&◌, length, Option, Some, None, refl, sym, ap, ◌∙◌, subst, nat_eq, nat_lt, inl, inr}
use Rattle.std.specs.Prelude.{Contains}
use Rattle.std.proofs.lemmas.Bool.{false≢true, eqb-true, eq-eqb, ltb-true, and_parts}
use Rattle.ir_model.proofs.SameTypes.{same_exactly}
use Rattle.ir_model.specs.Types.{PlainType, same}
use Rattle.ir_model.specs.Resolved.{Program, register_type}
use Rattle.ir_model.specs.State.{Object, FunctionObject}
use Rattle.ir_model.specs.Signatures.{signature}
use Rattle.ir_program.specs.Seen.{program_of}
use Rattle.ir_laws.specs.Sets.{Node, Register, Content, Outcome, ObjectSets, carries}
use Rattle.need_numbers.specs.Groups.{place_of}
use Rattle.need_sets.specs.Numbers.{GroupCounts, object_number, node_number, content_number, numbering_of}
use Rattle.need_numbers.specs.Rows.{Lists}
use Rattle.need_sets.specs.Pairs.{is_pair, sets_by}
use Rattle.need_numbers.proofs.GroupPlaces.{some_is, none_is}
use Rattle.need_sets.specs.declared.rules.Edge.{Edge}
use Rattle.need_sets.specs.declared.rules.Trigger.{Trigger}
use Rattle.need_sets.specs.declared.rules.Trigger.TheVariants as trigger
use Rattle.need_sets.specs.declared.rules.Rules.{Rules}
use Rattle.need_sets.specs.declared.system.System.{System}
use Rattle.need_sets.specs.Rules.{OnEdge, Obeys, edge_of, edge_to, edge_from, of_callee, callee_of, parameter_of, outcome_of, lists_in}
use Rattle.need_sets.specs.Solutions.{is_in, IsAsked, IsNeeded}
use Rattle.need_sets.specs.Demands.{Demand, HasObject, PassesOn, LoadsTo, StoresFrom, GivesTo, TakesFrom, demands_of}
use Rattle.need_sets.specs.Gathered.{Item, Fact, Copy, Asks, IsNumbered, Represents}
use Rattle.need_points_to.specs.Edges.{IsEdge}
use Rattle.need_points_to.proofs.Back.{object_from, object_back, callee_back}
use Rattle.need_points_to.proofs.Bridge.{ItemObeyed, obeys_from}
use Rattle.base_laws.proofs.Options.{guarded, guarded as tested}

abbrev pub is_number : Option ℕ → ℕ → Bool
is_number None j = false
is_number (Some k) j = nat_eq k j

number_is : (r : Option ℕ) (j : ℕ) → is_number r j ≡ true → r ≡ Some j
number_is None j e = absurd (false≢true e)
number_is (Some k) j e = ap Some (eqb-true k j e)

some_edge : (e f : Edge) → Some e ≡ Some f → e ≡ f
some_edge e f q = cc

no_edge_is : (e : Edge) → None ≡ Some e → ⊥
no_edge_is e q = cc

-- what an edge is made of
from_made : (r : Option ℕ) (b : ℕ) (e : Edge) → edge_from r b ≡ Some e → (r ≡ Some e.from) × (b ≡ e.to)
from_made None b e q = absurd (no_edge_is e q)
from_made (Some a) b e q = let x = some_edge (record { from = a; to = b }) e q in (ap (λ (y : Edge). Some y.from) x, ap (λ (y : Edge). y.to) x)

to_made : (a : ℕ) (r : Option ℕ) (e : Edge) → edge_to a r ≡ Some e → (a ≡ e.from) × (r ≡ Some e.to)
to_made a None e q = absurd (no_edge_is e q)
to_made a (Some b) e q = let x = some_edge (record { from = a; to = b }) e q in (ap (λ (y : Edge). y.from) x, ap (λ (y : Edge). Some y.to) x)

of_made : (r : Option ℕ) (h : ℕ → Option ℕ) (k : ℕ) → of_callee r h ≡ Some k → (g : ℕ) × (r ≡ Some g) × (h g ≡ Some k)
of_made None h k e = absurd (none_is None k refl e)
of_made (Some g) h k e = (g, refl, e)

module _ (p : Program) where
  abbrev c : GroupCounts
  c = numbering_of p

  -- the objects of pairs are those of the program
  real_items : (d : Demand) (x : Item) → IsNumbered c d x → ItemObeyed p (λ n j. is_number (object_number c (object_from c j)) j) x
  real_items (HasObject n o) (Fact x) e = ap (λ (y : Object). is_number (object_number c y) x.object) (object_back c o x.object e.1) ∙ (ap (λ r. is_number r x.object) e.1 ∙ eq-eqb x.object x.object refl)
  real_items d (Copy x) e = λ o h. h
  real_items d (Asks n t) e = λ o h. on_any (edge_of p c t o)
    where
      on_any : (r : Option Edge) → OnEdge r (λ y. (m : ℕ) → is_number (object_number c (object_from c m)) m ≡ true → is_number (object_number c (object_from c m)) m ≡ true)
      on_any None = tt
      on_any (Some y) = λ m h. h
  real_items _ (Fact x) e = absurd e

  pub real_rules : (r : Rules) → Represents c r (demands_of p) → Obeys p c r.facts.items r.copies.items (lists_in r.triggers) (λ n j. is_number (object_number c (object_from c j)) j)
  real_rules r h = obeys_from p r (λ n j. is_number (object_number c (object_from c j)) j) (λ x i. let m = h.each x i in real_items m.demand x m.is)

  abbrev pub AreReal : Lists → Type 0
  AreReal rows = (n o : ℕ) → is_in rows n o ≡ true → object_number c (object_from c o) ≡ Some o

  pub real_from : (rows : Lists) → ((n o : ℕ) → is_in rows n o ≡ true → is_number (object_number c (object_from c o)) o ≡ true) → AreReal rows
  real_from rows h n o e = number_is (object_number c (object_from c o)) o (h n o e)

  -- an edge by the numbers of its nodes
  pub record IsEdgeOf (S : ObjectSets) (i j : ℕ) : Type 0 where
    pub from : Node
    pub to : Node
    pub from_is : node_number c from ≡ Some i
    pub to_is : node_number c to ≡ Some j
    pub edge : IsEdge p S from to

  pub has_pair : (rows : Lists) (n : Node) (o : Object) (i j : ℕ) → node_number c n ≡ Some i → object_number c o ≡ Some j → is_in rows i j ≡ true → sets_by c rows n o ≡ true
  has_pair rows n o i j e f h = ap (λ r. is_pair rows r (object_number c o)) e ∙ (ap (is_pair rows (Some i)) f ∙ h)

  differ : (a b : Node) (i j : ℕ) → node_number c a ≡ Some i → node_number c b ≡ Some j → i ≢ j → a ≡ b → ⊥
  differ a b i j e f d q = d (some_is i j (sym e ∙ (ap (node_number c) q ∙ f)))

  content_of : (o : Object) (m a : ℕ) → object_number c o ≡ Some m → place_of c.nodes c.funcs m ≡ Some a → node_number c (Content o) ≡ Some a
  content_of o m a e f = ap (content_number c) e ∙ f

  abbrev S_of : Lists → ObjectSets
  S_of rows = sets_by c rows

  copy_edge : (rows : Lists) (e : Edge) (d : Demand) → e.from ≢ e.to → Contains (demands_of p) d → IsNumbered c d (Copy e) → IsEdgeOf (S_of rows) e.from e.to
  copy_edge rows e (PassesOn a b) s l n = record { from = a; to = b; from_is = n.0; to_is = n.1; edge = record { apart = differ a b e.from e.to n.0 n.1 s; demand = PassesOn a b; listed = l; passes = (refl, refl) } }
  copy_edge rows e _ s l n = absurd n

  load_edge : (rows : Lists) (e : Edge) (n to : Node) (i j o : ℕ) → AreReal rows → e.from ≢ e.to → Contains (demands_of p) (LoadsTo n to) → node_number c n ≡ Some i → node_number c to ≡ Some j → is_in rows i o ≡ true
      → edge_from (place_of c.nodes c.funcs o) j ≡ Some e → IsEdgeOf (S_of rows) e.from e.to
  load_edge rows e n to i j o real s l ni ti h q =
      let m = from_made (place_of c.nodes c.funcs o) j e q in
      let x = real i o h in
      let a = content_of (object_from c o) o e.from x m.0 in
      let b = ti ∙ ap Some m.1 in
      record { from = Content (object_from c o); to = to; from_is = a; to_is = b; edge = record { apart = differ (Content (object_from c o)) to e.from e.to a b s; demand = LoadsTo n to; listed = l; passes = (object_from c o, has_pair rows n (object_from c o) i o ni x h, refl, refl) } }

  store_edge : (rows : Lists) (e : Edge) (n from : Node) (i j o : ℕ) → AreReal rows → e.from ≢ e.to → Contains (demands_of p) (StoresFrom n from) → node_number c n ≡ Some i → node_number c from ≡ Some j → is_in rows i o ≡ true
      → edge_to j (place_of c.nodes c.funcs o) ≡ Some e → IsEdgeOf (S_of rows) e.from e.to
  store_edge rows e n from i j o real s l ni fi h q =
      let m = to_made j (place_of c.nodes c.funcs o) e q in
      let x = real i o h in
      let a = fi ∙ ap Some m.0 in
      let b = content_of (object_from c o) o e.to x m.1 in
      record { from = from; to = Content (object_from c o); from_is = a; to_is = b; edge = record { apart = differ from (Content (object_from c o)) e.from e.to a b s; demand = StoresFrom n from; listed = l; passes = (object_from c o, has_pair rows n (object_from c o) i o ni x h, refl, refl) } }

  function_has : (rows : Lists) (n : Node) (i o g : ℕ) → AreReal rows → node_number c n ≡ Some i → is_in rows i o ≡ true → callee_of c o ≡ Some g → g < length p.funcs → S_of rows n (FunctionObject g) ≡ true
  function_has rows n i o g real ni h q l = subst (λ y. S_of rows n y ≡ true) (callee_back p o g q l) (has_pair rows n (object_from c o) i o ni (real i o h) h)

  give_edge : (rows : Lists) (e : Edge) (n from : Node) (t : PlainType) (i j k o : ℕ) → AreReal rows → e.from ≢ e.to → Contains (demands_of p) (GivesTo n t from k) → node_number c n ≡ Some i → node_number c from ≡ Some j → is_in rows i o ≡ true
      → edge_to j (of_callee (callee_of c o) (λ g. parameter_of p c t g k)) ≡ Some e → IsEdgeOf (S_of rows) e.from e.to
  give_edge rows e n from t i j k o real s l ni fi h q =
      let m = to_made j (of_callee (callee_of c o) (λ g. parameter_of p c t g k)) e q in
      let f = of_made (callee_of c o) (λ g. parameter_of p c t g k) e.to m.1 in
      let g = f.0 in
      let w = tested (same (signature p g) t && carries (register_type p g k)) (node_number c (Register g k)) e.to f.2 in
      let v = and_parts (same (signature p g) t) (carries (register_type p g k)) w.0 in
      let below = ltb-true g (length p.funcs) (guarded (nat_lt g (length p.funcs)) (place_of c.nodes g k) e.to w.1).0 in
      let a = fi ∙ ap Some m.0 in
      record {
        from = from;
        to = Register g k;
        from_is = a;
        to_is = w.1;
        edge = record {
          apart = differ from (Register g k) e.from e.to a w.1 s;
          demand = GivesTo n t from k;
          listed = l;
          passes = (g, function_has rows n i o g real ni h f.1 below, (same_exactly (signature p g) t).0 v.0, v.1, refl, refl);
        };
      }

  take_edge : (rows : Lists) (e : Edge) (n to : Node) (t : PlainType) (i j o : ℕ) → AreReal rows → e.from ≢ e.to → Contains (demands_of p) (TakesFrom n t to) → node_number c n ≡ Some i → node_number c to ≡ Some j → is_in rows i o ≡ true
      → edge_from (of_callee (callee_of c o) (outcome_of p c t)) j ≡ Some e → IsEdgeOf (S_of rows) e.from e.to
  take_edge rows e n to t i j o real s l ni ti h q =
      let m = from_made (of_callee (callee_of c o) (outcome_of p c t)) j e q in
      let f = of_made (callee_of c o) (outcome_of p c t) e.from m.0 in
      let g = f.0 in
      let w = tested (nat_lt g (length p.funcs) && same (signature p g) t) (node_number c (Outcome g)) e.from f.2 in
      let v = and_parts (nat_lt g (length p.funcs)) (same (signature p g) t) w.0 in
      let b = ti ∙ ap Some m.1 in
      record {
        from = Outcome g;
        to = to;
        from_is = w.1;
        to_is = b;
        edge = record {
          apart = differ (Outcome g) to e.from e.to w.1 b s;
          demand = TakesFrom n t to;
          listed = l;
          passes = (g, function_has rows n i o g real ni h f.1 (ltb-true g (length p.funcs) v.0), (same_exactly (signature p g) t).0 v.1, refl, refl);
        };
      }

  trigger_edge : (rows : Lists) (e : Edge) (d : Demand) (i o : ℕ) (t : Trigger) → AreReal rows → e.from ≢ e.to → Contains (demands_of p) d → IsNumbered c d (Asks i t) → is_in rows i o ≡ true → edge_of p c t o ≡ Some e → IsEdgeOf (S_of rows) e.from e.to
  trigger_edge rows e (LoadsTo n to) i o (trigger.Load j) real s l x h q = load_edge rows e n to i j o real s l x.0 x.1 h q
  trigger_edge rows e (StoresFrom n from) i o (trigger.Store j) real s l x h q = store_edge rows e n from i j o real s l x.0 x.1 h q
  trigger_edge rows e (GivesTo n t from k) i o (trigger.Argument u j m) real s l x h q =
      give_edge rows e n from t i j k o real s l x.0 x.1 h
      (subst (λ z. edge_to j (of_callee (callee_of c o) (λ g. parameter_of p c t g z)) ≡ Some e) x.3 (subst (λ z. edge_to j (of_callee (callee_of c o) (λ g. parameter_of p c z g m)) ≡ Some e) x.2 q))
  trigger_edge rows e (TakesFrom n t to) i o (trigger.Outcome u j) real s l x h q =
      take_edge rows e n to t i j o real s l x.0 x.1 h (subst (λ z. edge_from (of_callee (callee_of c o) (outcome_of p c z)) j ≡ Some e) x.2 q)
  trigger_edge rows e _ i o _ real s l x h q = absurd x

  pub needed_edge : (w : System) (rows : Lists) (a b : ℕ) → program_of w.program.now ≡ p → w.numbering ≡ numbering_of p → Represents c w.rules (demands_of p) → AreReal rows → IsNeeded w rows a b → IsEdgeOf (S_of rows) a b
  needed_edge w rows a b e f r real n = by n.asked
    where
      by : IsAsked w rows (record { from = a; to = b }) → IsEdgeOf (S_of rows) a b
      by (inl i) = let m = r.each (Copy (record { from = a; to = b })) i in copy_edge rows (record { from = a; to = b }) m.demand n.apart m.listed m.is
      by (inr t) =
          let m = r.each (Asks t.node t.by) t.listed in
          trigger_edge rows (record { from = a; to = b }) m.demand t.node t.object t.by real n.apart m.listed m.is t.has
          (subst (λ (x : Program). edge_of x c t.by t.object ≡ Some (record { from = a; to = b })) e
          (subst (λ (y : GroupCounts). edge_of (program_of w.program.now) y t.by t.object ≡ Some (record { from = a; to = b })) f t.asks))

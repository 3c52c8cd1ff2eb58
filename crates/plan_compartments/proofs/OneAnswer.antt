-- Needs by the least sets are one.
use Rattle.std.proofs.Common.{◌≡◌, ℕ, ◌<◌, Bool, List, length, ap, sym, subst, ◌∙◌, inl, inr}
use Rattle.std.specs.Prelude.{◌⊎◌}
use Rattle.std.specs.Cmp.{IsTotalOrder}
use Rattle.std.proofs.lemmas.Cmp.{nat_cmp_total, on_total, then_total}
use Rattle.ir_model.specs.Plain.{PlainFirmware}
use Rattle.ir_model.specs.Resolved.{Program, here}
use Rattle.ir_model.specs.Resolve.{resolve}
use Rattle.ir_model.specs.State.{PeriphObject}
use Rattle.ir_model.specs.Objects.{object_by}
use Rattle.ir_model.proofs.ObjectOrder.{objects_total}
use Rattle.ir_laws.specs.Sets.{ObjectSets, CallsAt, IsRead, IsWritten}
use Rattle.plan_model.specs.declared.needs.FuncNeed.{FuncNeed}
use Rattle.plan_model.specs.declared.needs.SiteNeed.{SiteNeed}
use Rattle.plan_model.specs.declared.needs.Needs.{Needs}
use Rattle.plan_model.specs.Calls.{CallPlace, IsCallee, IsSiteOf, call_places}
use Rattle.plan_model.specs.Lendable.{IsLendable, compare_locals}
use Rattle.plan_model.specs.Needs.{IsData, IsWritable, IsNeedOf, AreNeeds, need_of, no_need}
use Rattle.plan_model.specs.PointsTo.{IsLeast}
use Rattle.plan_model.specs.declared.groups.FuncFacts.{FuncFacts}
use Rattle.plan_model.specs.Compartments.{compartments}
use Rattle.plan_model.specs.Facts.{facts}
use Rattle.plan_compartments.specs.Divisions.{groups_by}
use Rattle.plan_compartments.specs.Laws.{NeedsAreOne, DivisionsAreOne}
use Rattle.plan_compartments.proofs.OneList.{one_list, one_by_one, one_partner}
use Rattle.plan_compartments.proofs.Wider.{AreWithin, called_at, read, written, callee, lendable}

-- ---- orders

locals_total : IsTotalOrder compare_locals
locals_total = then_total (on_total (λ (x : ℕ × ℕ). x.0) nat_cmp_total) (on_total (λ (x : ℕ × ℕ). x.1) nat_cmp_total)

-- ---- needs by sets that have the same objects

module _ (p : Program) (S Q : ObjectSets) (to : AreWithin S Q) (from : AreWithin Q S) where
  either : (A B : ObjectSets) → AreWithin A B → (f q : ℕ) → IsWritten p A f (PeriphObject q) ⊎ IsRead p A f (PeriphObject q) → IsWritten p B f (PeriphObject q) ⊎ IsRead p B f (PeriphObject q)
  either A B w f q (inl h) = inl (written p A B w f (PeriphObject q) h)
  either A B w f q (inr h) = inr (read p A B w f (PeriphObject q) h)

  one_need : (f : ℕ) (n m : FuncNeed) → IsNeedOf p S f n → IsNeedOf p Q f m → n ≡ m
  one_need f n m a b =
      let w : n.written ≡ m.written =
      one_list objects_total (λ o. IsWritable p (object_by o) × IsWritten p S f (object_by o)) (λ o. IsWritable p (object_by o) × IsWritten p Q f (object_by o)) n.written m.written
      (λ o h. (h.0, written p S Q to f (object_by o) h.1)) (λ o h. (h.0, written p Q S from f (object_by o) h.1)) a.written b.written in
      let r : n.read ≡ m.read =
      one_list objects_total (λ o. IsData (object_by o) × IsRead p S f (object_by o)) (λ o. IsData (object_by o) × IsRead p Q f (object_by o)) n.read m.read
      (λ o h. (h.0, read p S Q to f (object_by o) h.1)) (λ o h. (h.0, read p Q S from f (object_by o) h.1)) a.read b.read in
      let q : n.periphs ≡ m.periphs =
      one_list nat_cmp_total (λ q. IsWritten p S f (PeriphObject q) ⊎ IsRead p S f (PeriphObject q)) (λ q. IsWritten p Q f (PeriphObject q) ⊎ IsRead p Q f (PeriphObject q)) n.periphs m.periphs
      (either S Q to f) (either Q S from f) a.periphs b.periphs in
      let c : n.callees ≡ m.callees = one_list nat_cmp_total (IsCallee p S f) (IsCallee p Q f) n.callees m.callees (callee p S Q to f) (callee p Q S from f) a.callees b.callees in
      λ i. record { written = w i; read = r i; periphs = q i; callees = c i }

  one_site : (c : CallPlace) (s t : SiteNeed) → IsSiteOf p S c s → IsSiteOf p Q c t → s ≡ t
  one_site c s t a b =
      let h = here p c.func c.block c.inst in
      let f : s.func ≡ t.func = a.func ∙ sym b.func in
      let k : s.block ≡ t.block = a.block ∙ sym b.block in
      let n : s.inst ≡ t.inst = a.inst ∙ sym b.inst in
      let g : s.targets ≡ t.targets =
      one_list nat_cmp_total (CallsAt p S c.func h) (CallsAt p Q c.func h) s.targets t.targets (called_at p S Q to c.func h) (called_at p Q S from c.func h) a.targets b.targets in
      λ i. record { func = f i; block = k i; inst = n i; targets = g i }

  -- on any two kinds of board
  same_funcs : (closed other : Bool) (n m : Needs) → AreNeeds p S closed n → AreNeeds p Q other m → n.funcs ≡ m.funcs
  same_funcs closed other n m a b =
      one_by_one no_need n.funcs m.funcs (a.count ∙ sym b.count)
      (λ f l. let k : f < length p.funcs = subst (λ c. f < c) a.count l in one_need f (need_of n f) (need_of m f) (a.funcs f k) (b.funcs f k))

  same_needs : (closed : Bool) (n m : Needs) → AreNeeds p S closed n → AreNeeds p Q closed m → n ≡ m
  same_needs closed n m a b =
      let fs : n.funcs ≡ m.funcs = same_funcs closed closed n m a b in
      let ss : n.sites ≡ m.sites = one_partner (IsSiteOf p S) (IsSiteOf p Q) (call_places p) n.sites m.sites one_site a.sites b.sites in
      let ls : n.lendable ≡ m.lendable =
      one_list locals_total (λ x. IsLendable p S closed x.0 x.1) (λ x. IsLendable p Q closed x.0 x.1) n.lendable m.lendable
      (λ x h. lendable p S Q to closed x.0 x.1 h) (λ x h. lendable p Q S from closed x.0 x.1 h) a.lendable b.lendable in
      let k : n.closed ≡ m.closed = a.kind ∙ sym b.kind in
      λ i. record { funcs = fs i; sites = ss i; lendable = ls i; closed = k i }

-- ---- the least sets are contained in each other

least_within : (p : Program) (S Q : ObjectSets) → IsLeast p S → IsLeast p Q → AreWithin S Q
least_within p S Q a b = a.least Q b.closed

pub needs_are_one : NeedsAreOne
needs_are_one w closed n m a b =
    same_needs (resolve w) a.sets b.sets (least_within (resolve w) a.sets b.sets a.least b.least) (least_within (resolve w) b.sets a.sets b.least a.least) closed n m a.needs b.needs

-- ---- compartments by needs on any two kinds of board

-- needs but for those of functions
with_funcs : Needs → List FuncNeed → Needs
with_funcs n fs = record { funcs = fs; sites = n.sites; lendable = n.lendable; closed = n.closed }

-- a policy looks at nothing else
same_facts : (w : PlainFirmware) (n m : Needs) → n.funcs ≡ m.funcs → facts w n ≡ facts w m
unfolding facts with_funcs
same_facts w n m e = ap (λ (fs : List FuncNeed). facts w (with_funcs n fs)) e

pub divisions_are_one : DivisionsAreOne
divisions_are_one policy w closed other n m a b =
    ap (λ (fs : List FuncFacts). compartments (groups_by policy fs))
    (same_facts w n m
    (same_funcs (resolve w) a.sets b.sets (least_within (resolve w) a.sets b.sets a.least b.least) (least_within (resolve w) b.sets a.sets b.least a.least) closed other n m
    a.needs b.needs))

-- Lent locals in the tables: their sizes, and the masks of compartments.
use Rattle.std.proofs.Common.{◌≡◌, ℕ, ◌<◌, ◌+◌, Bool, true, false, not, ◌&&◌, ◌||◌, List, [], length, get_or, cond, position, Some, nat_eq, nat_lt, refl, ap, ◌∙◌, eq-eqb, eqb-true, lt-ltb, le-ltb, lit<, arith}
use Rattle.std.specs.Int.{bit_at}
use Rattle.std.proofs.Math.Nat.{zero-add}
use Rattle.std.proofs.lemmas.List.{get_or-map, length-map}
use Rattle.std.proofs.lemmas.List.FromFn.{get_or-map-range_with_len}
use Rattle.std.proofs.lemmas.List.Quantifiers.{position-Some}
use Rattle.std.proofs.lemmas.Bool.{or_right, and_from as both, and_parts}
use Rattle.ir_model.specs.declared.object.ObjId.TheVariants.{Local}
use Rattle.ir_model.specs.Resolve.{resolve}
use Rattle.ir_model.specs.Resolved.{Program, local_at}
use Rattle.ir_model.specs.State.{LocalObject}
use Rattle.ir_model.proofs.Counting.{rounded_at_least}
use Rattle.plan_model.specs.declared.needs.Needs.{Needs}
use Rattle.plan_model.specs.declared.groups.Groups.{Groups}
use Rattle.plan_model.specs.declared.graph.Final.{Final}
use Rattle.plan_model.specs.declared.plan.Plan.{Plan}
use Rattle.plan_model.specs.declared.plan.Board.{Board}
use Rattle.plan_model.specs.Boards.{slots_of}
use Rattle.plan_model.specs.Groups.{compartment_of, writes, reads}
use Rattle.plan_model.specs.Needs.{need_of, has_object}
use Rattle.plan_model.specs.Lending.{lent, is_local, lend_number}
use Rattle.plan_model.specs.InitialGraph.{mask_of, read_mask_of, mask_where}
use Rattle.plan_model.specs.Slots.{kept_mask}
use Rattle.need_laws.specs.Reached.{IsListed}
use Rattle.machine_bus.specs.Locations.{inside}
use Rattle.monitor_model.specs.declared.tables.CompRecord.{CompRecord}
use Rattle.monitor_model.specs.Records.{compartment_at, nobody}
use Rattle.monitor_model.specs.MonitorCode.{MonitorCode}
use Rattle.monitor_model.specs.Setting.{has_loan, has_read_loan, may_load}
use Rattle.image_model.specs.LinkedTables.{tables_of, comp_record, lend_sizes}
use Rattle.image_model.specs.LinkedImage.{linked}
use Rattle.refine.specs.Linked.{HasLoans}
use Rattle.image_promises.specs.Planned.{planned_tables, planned_image}
use Rattle.plan.specs.PlannedFirmwares.{plan}
use Rattle.image_promises.specs.Parts.{linked_build, LoansAreKept, KindsAgree}
use Rattle.image_promises.proofs.PlannedPremises.{PlannedPremises, planned_of, final_graph_of}
use Rattle.image_promises.proofs.Bits.{mask_bit}
use Rattle.image_promises.proofs.Masks.{mask_is, reads_is}
use Rattle.image_promises.proofs.Reach.{one_of, has_listed}
use Rattle.image_promises.proofs.Compartments.{in_compartment}
use Rattle.plan_model.proofs.KeptLimits.{few as few_limits}

-- ---- numbers

pub record IsLent (n : Needs) (g : Groups) (h l k : ℕ) : Type 0 where
  pub many : nat_lt 1 g.count ≡ true
  pub below : k < length n.lendable
  pub func : (get_or n.lendable k (0, 0)).0 ≡ h
  pub local : (get_or n.lendable k (0, 0)).1 ≡ l

is_lent : (n : Needs) (g : Groups) (h l k : ℕ) → lend_number n g h l ≡ Some k → IsLent n g h l k
unfolding lend_number
is_lent n g h l k e = by (nat_lt 1 g.count) refl e
  where
    by : (b : Bool) → nat_lt 1 g.count ≡ b → position (is_local h l) (cond b n.lendable []) ≡ Some k → IsLent n g h l k
    by true m f =
        let r = position-Some (is_local h l) n.lendable k (0, 0) f in
        let t = and_parts (nat_eq (get_or n.lendable k (0, 0)).0 h) (nat_eq (get_or n.lendable k (0, 0)).1 l) r.1 in
        record { many = m; below = r.0; func = eqb-true _ _ t.0; local = eqb-true _ _ t.1 }
    by false m f = absurd (let r = position-Some (is_local h l) [] k (0, 0) f in let none : k < 0 = r.0 in omega (arith, none))

lent_are : (n : Needs) (g : Groups) → nat_lt 1 g.count ≡ true → lent n g ≡ n.lendable
lent_are n g m = ap (λ b. cond b n.lendable []) m

-- ---- sizes

module _ (p : Program) (n : Needs) (g : Groups) (h l k : ℕ) (is : IsLent n g h l k) where
  size_there : k < length (lend_sizes p (lent n g))
  size_there =
      let e = ap length (lent_are n g is.many) in
      let m = length-map (lent n g) (λ (x : ℕ × ℕ). (local_at p x.0 x.1).size) in
      omega (arith, e, m, is.below)

  size_is : get_or (lend_sizes p (lent n g)) k 0 ≡ (local_at p h l).size
  size_is =
      let e = ap length (lent_are n g is.many) in
      let there : k < length (lent n g) = omega (arith, e, is.below) in
      let x : ℕ × ℕ = get_or n.lendable k (0, 0) in
      get_or-map (λ (x : ℕ × ℕ). (local_at p x.0 x.1).size) (lent n g) k (0, 0) 0 there
      ∙ (ap (λ (xs : List (ℕ × ℕ)). (local_at p (get_or xs k (0, 0)).0 (get_or xs k (0, 0)).1).size) (lent_are n g is.many)
      ∙ (ap (λ a. (local_at p a x.1).size) is.func ∙ ap (λ a. (local_at p h a).size) is.local))

-- ---- masks

pub record_of : (p : Program) (n : Needs) (f : Final) (l : Plan) (b : Board) (c : ℕ) → c < f.groups.count → compartment_at (tables_of p n f l b) c ≡ comp_record p f l (slots_of b) c
unfolding tables_of
record_of p n f l b c m = get_or-map-range_with_len (comp_record p f l (slots_of b)) 0 f.groups.count c c nobody m (zero-add c)

kept_is : (f : Final) (masks : List ℕ) (c : ℕ) → nat_lt 1 f.groups.count ≡ true → kept_mask f masks c ≡ get_or masks c 0
kept_is f masks c m = ap (λ b. cond b (get_or masks c 0) 0) m

at_local : (does : ℕ × ℕ → Bool) (n : Needs) (g : Groups) (h l k : ℕ) → IsLent n g h l k → (P : ℕ → ℕ → Bool) → ((x : ℕ × ℕ) → does x ≡ P x.0 x.1) → P h l ≡ true → does (get_or n.lendable k (0, 0)) ≡ true
at_local does n g h l k is P same t =
    let x : ℕ × ℕ = get_or n.lendable k (0, 0) in
    same x ∙ (ap (λ a. P a x.1) is.func ∙ (ap (λ a. P h a) is.local ∙ t))

module _ (code : MonitorCode) (planned : PlannedPremises) where
  open planned use {firmware as w, needs as n, final as f, board as b, is_planned as is}

  number_small : (h l k : ℕ) → IsLent n f.groups h l k → k < 32
  number_small h l k i =
      let few = (few_limits n f.groups is.limits).lent in
      let e = ap length (lent_are n f.groups i.many) in
      omega (arith, few, e, i.below)

  stores : (g h l k : ℕ) → g < length (resolve w).funcs → IsListed (need_of n g).written (LocalObject h l) → lend_number n f.groups h l ≡ Some k
      → has_loan (planned_tables w n f b) (compartment_of f.groups g) k ≡ true
  stores g h l k m listed e =
      let c = compartment_of f.groups g in
      let i = is_lent n f.groups h l k e in
      let there = in_compartment (resolve w) f.groups is.groups g m in
      let bit : bit_at (mask_of n f.groups c) k ≡ 1 =
      mask_bit n (λ x. writes n f.groups c (Local x.0 x.1)) k i.below (number_small h l k i)
      (at_local (λ x. writes n f.groups c (Local x.0 x.1)) n f.groups h l k i (λ a d. writes n f.groups c (Local a d)) (λ x. refl)
      (one_of f.groups (λ y. has_object (need_of n y).written (Local h l)) g there.listed (has_listed (need_of n g).written (LocalObject h l) listed))) in
      eq-eqb (bit_at (compartment_at (planned_tables w n f b) c).mask k) 1
      (ap (λ (r : CompRecord). bit_at r.mask k) (record_of (resolve w) n f (plan w n f b) b c there.below)
      ∙ (ap (λ x. bit_at x k) (kept_is f f.masks c i.many ∙ mask_is (final_graph_of planned) c there.below) ∙ bit))

  loads : b.closed ≡ true → (g h l k : ℕ) → g < length (resolve w).funcs → IsListed (need_of n g).read (LocalObject h l) → lend_number n f.groups h l ≡ Some k
      → has_read_loan (planned_image w n f b) (planned_tables w n f b) (compartment_of f.groups g) k ≡ true
  unfolding linked
  loads closed g h l k m listed e =
      let c = compartment_of f.groups g in
      let i = is_lent n f.groups h l k e in
      let there = in_compartment (resolve w) f.groups is.groups g m in
      let does : ℕ × ℕ → Bool = λ x. writes n f.groups c (Local x.0 x.1) || reads n f.groups c (Local x.0 x.1) in
      let bit : bit_at (mask_where n does) k ≡ 1 =
      mask_bit n does k i.below (number_small h l k i)
      (at_local does n f.groups h l k i (λ a d. writes n f.groups c (Local a d) || reads n f.groups c (Local a d)) (λ x. refl)
      (or_right (writes n f.groups c (Local h l)) (reads n f.groups c (Local h l))
      (one_of f.groups (λ y. has_object (need_of n y).read (Local h l)) g there.listed (has_listed (need_of n g).read (LocalObject h l) listed)))) in
      let open_mask : read_mask_of n f.groups c ≡ mask_where n does = ap (λ z. cond z (mask_where n does) 0) (is.needs.kind ∙ closed) in
      ap (λ z. z && nat_eq (bit_at (compartment_at (planned_tables w n f b) c).reads k) 1) closed
      ∙ eq-eqb (bit_at (compartment_at (planned_tables w n f b) c).reads k) 1
      (ap (λ (r : CompRecord). bit_at r.reads k) (record_of (resolve w) n f (plan w n f b) b c there.below)
      ∙ (ap (λ x. bit_at x k) (kept_is f f.reads c i.many ∙ (reads_is (final_graph_of planned) c there.below ∙ open_mask)) ∙ bit))

  open_loads : b.closed ≡ false → (c o : ℕ) → o < b.ram_size → may_load (planned_image w n f b) (planned_tables w n f b) c (b.ram_base + o) ≡ true
  unfolding linked may_load
  open_loads kind c o l =
      let a : ℕ = b.ram_base + o in
      or_right _ _
      (or_right _ _
      (both (not b.closed) (inside b.ram_base b.ram_size a) (ap not kind)
      (both (not (nat_lt a b.ram_base)) (nat_lt a (b.ram_base + b.ram_size)) (ap not (le-ltb a b.ram_base (omega arith))) (lt-ltb a (b.ram_base + b.ram_size) (omega arith)))))

  pub has_loans : HasLoans (linked_build code w n f b)
  unfolding linked tables_of
  has_loans = record {
    there = λ g l k m e. size_there (resolve w) n f.groups g l k (is_lent n f.groups g l k e);
    least = λ g l k m e. let s = size_is (resolve w) n f.groups g l k (is_lent n f.groups g l k e) in omega (arith, s);
    most = λ g l k m e.
        let s = size_is (resolve w) n f.groups g l k (is_lent n f.groups g l k e) in
        let r = rounded_at_least (local_at (resolve w) g l).size 4 (lit< tt) in
        omega (arith, s, r);
    stores = λ g h l k m i e. stores g h l k m i e;
    loads = λ c g h l k m i e. loads c g h l k m i e;
    open_loads = open_loads;
  }

pub loans_are_kept : LoansAreKept
loans_are_kept code w n f b is = has_loans code (planned_of is)

pub kinds_agree : KindsAgree
unfolding linked
kinds_agree code w n f b is = is.needs.kind

-- The graph permits what needs list.
use Rattle.std.proofs.Common.{◌≡◌, ◌≢◌, ℕ, ◌<◌, ◌≤◌, inl, inr, Bool, true, ◌&&◌, ◌||◌, cond, [], length, get_or, position, nat_eq, Some, None, refl, ap, ap₂, sym, ◌∙◌, subst, arith, eqb-true, eq-eqb, lt-ltb}
use Rattle.std.specs.Prelude.{Contains}
use mathlib.Core.Logic.{⊎_elim}
use Rattle.std.specs.Int.{bit_at}
use Rattle.std.specs.List.{list_any}
use Rattle.std.proofs.lemmas.Bool.{cases_lt, cases_eq, false≢true, and_parts, or_right, and_from as both}
use Rattle.std.proofs.lemmas.List.{get_or_past}
use Rattle.std.proofs.lemmas.List.Folds.{list_any_at}
use Rattle.std.specs.List.{position_or_len}
use Rattle.std.proofs.lemmas.List.Sums.{fails_before_first, passes_at_first}
use Rattle.ir_model.specs.declared.object.ObjId.TheVariants.{Global, Local}
use Rattle.ir_model.specs.Resolve.{resolve}
use Rattle.ir_model.specs.Resolved.{Program, here, Here, Does, Ends, Const, Move, Bin, Cmp, Addr, FAddr, Elem, Field, Load, Store, Call, ICall}
use Rattle.ir_model.specs.State.{Object, GlobalObject, PeriphObject, LocalObject, FunctionObject, StepEffect, Nothing, Loaded, Stored, Called}
use Rattle.ir_model.specs.Step.{source_turn}
use Rattle.ir_model.specs.Runs.{source_after}
use Rattle.ir_laws.specs.Sets.{ObjectSets, Node, ReadsAt, WritesAt, IsRead, IsWritten}
use Rattle.plan_model.specs.declared.needs.Needs.{Needs}
use Rattle.plan_model.specs.declared.graph.DataRegion.{DataRegion}
use Rattle.plan_model.specs.Covers.{is_inside}
use Rattle.plan_model.specs.Groups.{compartment_of, writes, reads, uses}
use Rattle.plan_model.specs.InitialGraph.{cover_of, read_mask_of, mask_where}
use Rattle.plan_model.specs.Lendable.{OthersWrite, OthersRead}
use Rattle.plan_model.specs.Lending.{lent, is_local}
use Rattle.plan_model.specs.Lists.{has}
use Rattle.plan_model.specs.Needs.{need_of, no_need, has_object}
use Rattle.plan_model.specs.Permission.{is_set, may_write, may_read}
use Rattle.plan_model.specs.Regions.{region_at, no_region, is_user}
use Rattle.plan_model.proofs.KeptLimits as limits
use Rattle.need_laws.specs.Laws.{IsThere, NoStepLeavesNeeds}
use Rattle.need_laws.specs.Reached.{IsListed, ListsPeriph, IsInNeeds}
use Rattle.image_promises.proofs.PlannedPremises.{PlannedPremises, planned_of, final_graph_of}
use Rattle.image_promises.proofs.Bits.{mask_bit}
use Rattle.image_promises.proofs.Compartments.{in_compartment}
use Rattle.image_promises.proofs.FinalRegions as regions
use Rattle.image_promises.proofs.Reach.{one_of, has_listed}
use Rattle.image_promises.proofs.WindowsOpen.{covered, periph_has}
use Rattle.image_promises.specs.Policy.{IsAllowed, IsInPolicy, PlannedRunsStayInPolicy}
use Rattle.image_promises.proofs.Masks.{mask_is, reads_is}

-- ---- the set that has an object that is reached

written_node : (S : ObjectSets) (f : ℕ) (h : Here) (o : Object) → WritesAt S f h o → (m : Node) × (S m o ≡ true)
written_node S f (Does (Store to from t)) o x = (_, x)
written_node S f (Does (Const to v)) o x = absurd x
written_node S f (Does (Move to v)) o x = absurd x
written_node S f (Does (Bin op to a b)) o x = absurd x
written_node S f (Does (Cmp op to a b)) o x = absurd x
written_node S f (Does (Addr to v)) o x = absurd x
written_node S f (Does (FAddr to v)) o x = absurd x
written_node S f (Does (Elem to a b n)) o x = absurd x
written_node S f (Does (Field to a n)) o x = absurd x
written_node S f (Does (Load to from t)) o x = absurd x
written_node S f (Does (Call to g xs)) o x = absurd x
written_node S f (Does (ICall to g xs)) o x = absurd x
written_node S f (Ends t) o x = absurd x

read_node : (S : ObjectSets) (f : ℕ) (h : Here) (o : Object) → ReadsAt S f h o → (m : Node) × (S m o ≡ true)
read_node S f (Does (Load to from t)) o x = (_, x)
read_node S f (Does (Const to v)) o x = absurd x
read_node S f (Does (Move to v)) o x = absurd x
read_node S f (Does (Bin op to a b)) o x = absurd x
read_node S f (Does (Cmp op to a b)) o x = absurd x
read_node S f (Does (Addr to v)) o x = absurd x
read_node S f (Does (FAddr to v)) o x = absurd x
read_node S f (Does (Elem to a b n)) o x = absurd x
read_node S f (Does (Field to a n)) o x = absurd x
read_node S f (Does (Store to from t)) o x = absurd x
read_node S f (Does (Call to g xs)) o x = absurd x
read_node S f (Does (ICall to g xs)) o x = absurd x
read_node S f (Ends t) o x = absurd x

-- ---- lists

-- a lendable local has a place, and its bit is set where it passes the test of the mask
bit_there : (n : Needs) (does : ℕ × ℕ → Bool) (h l : ℕ) → length n.lendable ≤ 32 → Contains n.lendable (h, l) → does (h, l) ≡ true → is_set (mask_where n does) (position (is_local h l) n.lendable) ≡ true
bit_there n does h l few there t =
    let k : ℕ = position_or_len (is_local h l) n.lendable in
    ap (is_set (mask_where n does)) here ∙ eq-eqb (bit_at (mask_where n does) k) 1 (mask_bit n does k lt (let z = lt in omega (arith, z, few)) (same ∙ t))
  where
    is_it : (x : ℕ × ℕ) → x ≡ (h, l) → is_local h l x ≡ true
    is_it x e = ap (is_local h l) e ∙ both (nat_eq h h) (nat_eq l l) (eq-eqb h h refl) (eq-eqb l l refl)

    lt : position_or_len (is_local h l) n.lendable < length n.lendable
    lt = ⊎_elim (λ z. z)
        (λ ge. absurd (let few = there.1 in false≢true (sym (fails_before_first (is_local h l) n.lendable there.0 (h, l) (omega (arith, ge, few))) ∙ is_it (get_or n.lendable there.0 (h, l)) there.2)))
        (cases_lt (position_or_len (is_local h l) n.lendable) (length n.lendable))

    here : position (is_local h l) n.lendable ≡ Some (position_or_len (is_local h l) n.lendable)
    here = ap (λ b. cond b (Some (position_or_len (is_local h l) n.lendable)) None) (lt-ltb (position_or_len (is_local h l) n.lendable) (length n.lendable) lt)

    same : does (get_or n.lendable (position_or_len (is_local h l) n.lendable) (0, 0)) ≡ does (h, l)
    same =
        let x : ℕ × ℕ = get_or n.lendable (position_or_len (is_local h l) n.lendable) (0, 0) in
        let z = passes_at_first (is_local h l) n.lendable (0, 0) lt in
        let p = and_parts (nat_eq x.0 h) (nat_eq x.1 l) z in
        ap₂ (λ (a c : ℕ). does (a, c)) (eqb-true x.0 h p.0) (eqb-true x.1 l p.1)

module _ (planned : PlannedPremises) (many : 1 < planned.final.groups.count) (g : ℕ) (below : g < length (resolve planned.firmware).funcs) where
  open planned use {firmware as w, needs as n, final as f, is_planned as ok}

  abbrev p : Program
  p = resolve w

  abbrev c : ℕ
  c = compartment_of f.groups g

  c_below : c < f.groups.count
  c_below = (in_compartment p f.groups ok.groups g below).below

  listed : g < length f.groups.of
  listed = (in_compartment p f.groups ok.groups g below).listed

  few : length n.lendable ≤ 32
  few =
      let e : lent n f.groups ≡ n.lendable = ap (λ z. cond z n.lendable []) (lt-ltb 1 f.groups.count many) in
      let x = (limits.few n f.groups ok.limits).lent in
      let y = ap length e in
      omega (arith, x, y)

  -- ---- peripherals

  reached : (q : ℕ) → q < length p.periphs → uses n f.groups c q ≡ true → list_any (is_inside (cover_of p q)) (get_or f.covers c []) ≡ true
  reached q lt u = covered (final_graph_of planned) c q c_below lt u

  used : (q : ℕ) → Contains (need_of n g).periphs q → uses n f.groups c q ≡ true
  used q h = one_of f.groups (λ y. has (need_of n y).periphs q) g listed (periph_has (need_of n g).periphs q h)

  -- ---- stores

  written : (o : Object) → IsListed (need_of n g).written o → IsWritten p ok.sets g o
  written o i = subst (λ (x : Object). IsWritten p ok.sets g x) i.2 ((ok.needs.funcs g below).written.each i.0 i.1).1

  there : (o : Object) → IsWritten p ok.sets g o → IsThere p o
  there o x = let z = written_node ok.sets g (here p g x.0 x.1) o x.2 in ok.are_sets.there z.0 o z.1

  pub stores : (o : Object) → IsListed (need_of n g).written o → ListsPeriph n g o → IsAllowed (may_write p n f c) g o
  unfolding may_write
  stores (GlobalObject x) i q =
      let lt : x < length p.globals = there (GlobalObject x) (written (GlobalObject x) i) in
      let writer : writes n f.groups c (Global x) ≡ true = one_of f.groups (λ y. has_object (need_of n y).written (Global x)) g listed (has_listed (need_of n g).written (GlobalObject x) i) in
      let some = regions.in_region (final_graph_of planned) x lt (regions.written_used (final_graph_of planned) x c c_below writer) in
      list_any_at (λ (r : DataRegion). has r.writers c && has r.globals x) f.regions some.0 no_region some.1
      (both (has (region_at f.regions some.0).writers c) (has (region_at f.regions some.0).globals x) (regions.writers (final_graph_of planned) x c c_below writer some.0 some.1 some.2) some.2)
  stores (PeriphObject q) i h = reached q (there (PeriphObject q) (written (PeriphObject q) i)) (used q h)
  stores (LocalObject h l) i q = ⊎_elim (λ e. inl e) (λ d. inr (lent_bit d)) (cases_eq h g)
    where
      lent_bit : h ≢ g → is_set (get_or f.masks c 0) (position (is_local h l) n.lendable) ≡ true
      lent_bit d =
          let x = written (LocalObject h l) i in
          let lendable = ok.needs.lendable.all (h, l) (record { there = there (LocalObject h l) x; cause = OthersWrite g (λ e. d (sym e)) x }) in
          let writer : writes n f.groups c (Local h l) ≡ true = one_of f.groups (λ y. has_object (need_of n y).written (Local h l)) g listed (has_listed (need_of n g).written (LocalObject h l) i) in
          ap (λ m. is_set m (position (is_local h l) n.lendable)) (mask_is (final_graph_of planned) c c_below) ∙ bit_there n (λ y. writes n f.groups c (Local y.0 y.1)) h l few lendable writer
  stores (FunctionObject h) i q = subst (λ (x : Object). Rattle.plan_model.specs.Needs.IsWritable p x) i.2 ((ok.needs.funcs g below).written.each i.0 i.1).0

  -- ---- loads, on a closed board

  read : (o : Object) → IsListed (need_of n g).read o → IsRead p ok.sets g o
  read o i = subst (λ (x : Object). IsRead p ok.sets g x) i.2 ((ok.needs.funcs g below).read.each i.0 i.1).1

  read_there : (o : Object) → IsRead p ok.sets g o → IsThere p o
  read_there o x = let z = read_node ok.sets g (here p g x.0 x.1) o x.2 in ok.are_sets.there z.0 o z.1

  pub loads : n.closed ≡ true → (o : Object) → IsListed (need_of n g).read o → ListsPeriph n g o → IsAllowed (may_read p n f c) g o
  unfolding may_read
  loads closed (GlobalObject x) i q =
      let lt : x < length p.globals = read_there (GlobalObject x) (read (GlobalObject x) i) in
      let reader : reads n f.groups c (Global x) ≡ true = one_of f.groups (λ y. has_object (need_of n y).read (Global x)) g listed (has_listed (need_of n g).read (GlobalObject x) i) in
      let some = regions.in_region (final_graph_of planned) x lt (regions.read_used (final_graph_of planned) x c closed c_below reader) in
      list_any_at (λ (r : DataRegion). is_user c r && has r.globals x) f.regions some.0 no_region some.1
      (both (is_user c (region_at f.regions some.0)) (has (region_at f.regions some.0).globals x)
      (or_right (has (region_at f.regions some.0).writers c) (has (region_at f.regions some.0).readers c) (regions.readers (final_graph_of planned) x c closed c_below reader some.0 some.1 some.2)) some.2)
  loads closed (PeriphObject q) i h = reached q (read_there (PeriphObject q) (read (PeriphObject q) i)) (used q h)
  loads closed (LocalObject h l) i q = ⊎_elim (λ e. inl e) (λ d. inr (lent_bit d)) (cases_eq h g)
    where
      lent_bit : h ≢ g → is_set (get_or f.reads c 0) (position (is_local h l) n.lendable) ≡ true
      lent_bit d =
          let x = read (LocalObject h l) i in
          let lendable = ok.needs.lendable.all (h, l) (record { there = read_there (LocalObject h l) x; cause = OthersRead g (sym ok.needs.kind ∙ closed) (λ e. d (sym e)) x }) in
          let reader : reads n f.groups c (Local h l) ≡ true = one_of f.groups (λ y. has_object (need_of n y).read (Local h l)) g listed (has_listed (need_of n g).read (LocalObject h l) i) in
          let all : read_mask_of n f.groups c ≡ mask_where n (λ y. writes n f.groups c (Local y.0 y.1) || reads n f.groups c (Local y.0 y.1)) =
          ap (λ z. cond z (mask_where n (λ y. writes n f.groups c (Local y.0 y.1) || reads n f.groups c (Local y.0 y.1))) 0) closed in
          ap (λ m. is_set m (position (is_local h l) n.lendable)) (reads_is (final_graph_of planned) c c_below ∙ all)
          ∙ bit_there n (λ y. writes n f.groups c (Local y.0 y.1) || reads n f.groups c (Local y.0 y.1)) h l few lendable (or_right (writes n f.groups c (Local h l)) (reads n f.groups c (Local h l)) reader)
  loads closed (FunctionObject h) i q = subst (λ (x : Object). Rattle.plan_model.specs.Needs.IsData x) i.2 ((ok.needs.funcs g below).read.each i.0 i.1).0

-- ---- runs

none_listed : (o : Object) → IsListed [] o → ⊥
none_listed o i = let lt = i.1.1 in absurd (omega (arith, lt))

module _ (planned : PlannedPremises) (many : 1 < planned.final.groups.count) where
  open planned use {firmware as w, needs as n, final as f, is_planned as ok}

  past : (g : ℕ) → length (resolve w).funcs ≤ g → need_of n g ≡ no_need
  past g le = get_or_past n.funcs g no_need (let e = ok.needs.count in omega (arith, e, le))

  allowed : (d : StepEffect) → IsInNeeds n d → IsInPolicy w n f d
  allowed Nothing x = tt
  allowed (Loaded g o) x = λ closed. ⊎_elim (λ lt. loads planned many g lt closed o x.0 x.1) (λ le. absurd (none_listed o (subst (λ m. IsListed m.read o) (past g le) x.0))) (cases_lt g (length (resolve w).funcs))
  allowed (Stored g o) x = ⊎_elim (λ lt. stores planned many g lt o x.0 x.1) (λ le. absurd (none_listed o (subst (λ m. IsListed m.written o) (past g le) x.0))) (cases_lt g (length (resolve w).funcs))
  allowed (Called g k j h) x = x.0

pub stay_in_policy : NoStepLeavesNeeds → PlannedRunsStayInPolicy
stay_in_policy law w n f b ok compartments queues steps many =
    allowed (planned_of ok) many (source_turn (resolve w) compartments (source_after (resolve w) compartments queues steps)).did
    (law w ok.sets b.closed n ok.typed ok.within ok.are_sets.closed ok.needs compartments queues steps)

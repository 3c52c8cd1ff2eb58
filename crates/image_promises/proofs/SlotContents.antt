-- What the slots of a planned firmware's compartments hold is of their permissions.
use Rattle.std.proofs.Common.{◌≡◌, ℕ, ◌<◌, ◌%◌, inl, inr, Bool, true, ◌&&◌, List, [], ◌∷◌, length, get_or, sym, subst, lit<, arith}
use Rattle.std.specs.List.{list_any}
use Rattle.std.proofs.lemmas.Bool.{or_left, or_right, and_from as both}
use Rattle.std.proofs.lemmas.List.Folds.{list_any_at}
use Rattle.std.proofs.Math.Pow.{pow_mono}
use mathlib.Core.Logic.{⊎_elim}
use Rattle.machine_model.specs.Confinement.{AnyOf}
use Rattle.machine_protection.specs.declared.region.Region.{Region}
use Rattle.machine_protection.specs.declared.words.Rights.TheVariants.{Device}
use Rattle.machine_protection.specs.Regions.{holds}
use Rattle.base_laws.specs.Lists.{Each}
use Rattle.ir_model.specs.declared.object.ObjId.{ObjId}
use Rattle.ir_model.specs.declared.object.ObjId.TheVariants.{Global, Periph}
use Rattle.ir_model.specs.Resolve.{resolve}
use Rattle.ir_model.specs.Resolved.{Program}
use Rattle.ir_laws.specs.Limits.{WindowsLieApart, HasWindows}
use Rattle.plan_model.specs.declared.graph.Cover.{Cover}
use Rattle.plan_model.specs.declared.graph.DataRegion as data_region
use Rattle.plan_model.specs.declared.plan.Plan.{Plan}
use Rattle.plan_model.specs.declared.plan.Sizes.{Sizes}
use Rattle.plan_model.specs.Boards.{slots_of}
use Rattle.plan_model.specs.Lists.{has}
use Rattle.plan_model.specs.Regions.{region_at, is_user, no_region}
use Rattle.plan_model.specs.Blocks.{region_bytes}
use Rattle.plan_model.specs.Covers.{is_inside}
use Rattle.plan_model.specs.InitialGraph.{cover_of}
use Rattle.plan_model.specs.RamBlocks.{RamUse, ForStack, ForMonitor, ForRegion, ForUnwritten}
use Rattle.plan_model.specs.Placement.{region_spot}
use Rattle.plan_model.specs.Permission.{may_write, may_read}
use Rattle.plan_model.specs.Slots.{data_slot, cover_slot}
use Rattle.plan_layout_laws.specs.RamLaws.{HoldsAddress}
use Rattle.monitor_model.specs.Records.{compartment_at}
use Rattle.image_promises.specs.Planned.{planned_tables}
use Rattle.plan.specs.PlannedFirmwares.{plan, planned_sizes}
use Rattle.image_promises.proofs.PlannedPremises.{PlannedPremises, planned_of}
use Rattle.image_promises.proofs.Ranges.{globals_for}
use Rattle.image_promises.specs.Permissions.{IsOf, IsByteOf, IsOnPeripherals, IsInData, IsPermitted, OnPeripherals, InData, SlotsArePermitted, SlotsHoldPermissions}
use Rattle.base_laws.proofs.Lists.{each_to}
use Rattle.image_promises.proofs.Bearing.{use_region}
use Rattle.image_promises.proofs.CoverWindows.{IsFilled, covers_are_filled, whole_inside}
use Rattle.image_promises.proofs.GlobalPlaces.{placed, byte_held, same_or_other}
use Rattle.image_promises.proofs.DataSlots.{slot_holds, Stores, writes_there}
use Rattle.image_promises.proofs.DataRanges as ranges
use Rattle.image_promises.proofs.Opened.{SlotLaws}
use Rattle.image_promises.proofs.OneSlot.{open_within, Serves, slot_serves}

-- ---- lists

-- one of the list has what one item has
each_among : {X : Type 0} (P : X → Type 0) (xs : List X) → Each (λ x. P x → AnyOf P xs) xs
each_among P [] = tt
each_among P (x ∷ xs) = (λ h. inl h, each_to (λ y. P y → AnyOf P xs) (λ y. P y → AnyOf P (x ∷ xs)) xs (λ y f h. inr (f h)) (each_among P xs))

-- a test that an item passes, some item of the list passes
each_passes : {X Y : Type 0} (test : Y → X → Bool) (xs : List X) → Each (λ x. (y : Y) → test y x ≡ true → list_any (test y) xs ≡ true) xs
each_passes test [] = tt
each_passes {X} {Y} test (x ∷ xs) = (
  λ y e. or_left (test y x) (list_any (test y) xs) e,
  each_to (λ z. (y : Y) → test y z ≡ true → list_any (test y) xs ≡ true) (λ z. (y : Y) → test y z ≡ true → list_any (test y) (x ∷ xs) ≡ true) xs
      (λ z f y e. or_right (test y x) (list_any (test y) xs) (f y e)) (each_passes test xs),
)

each_two : {X : Type 0} (P Q : X → Type 0) (xs : List X) → Each P xs → Each Q xs → Each (λ x. P x × Q x) xs
each_two P Q [] e h = tt
each_two P Q (x ∷ xs) e h = ((e.0, h.0), each_two P Q xs e.1 h.1)

module _ (law : SlotLaws) (windows : WindowsLieApart) (planned : PlannedPremises) where
  open planned use {firmware as w, needs as n, final as f, board as b, is_planned as ok}

  abbrev p : Program
  p = resolve w

  abbrev l : Plan
  l = plan w n f b

  abbrev s : Sizes
  s = planned_sizes w n f b

  abbrev apart_windows : HasWindows p
  apart_windows = windows w ok.typed

  -- ---- data

  alone : (a r : ℕ) → HoldsAddress p f l (ForRegion r) a → (u : RamUse) → HoldsAddress p f l u a → u ≡ ForRegion r
  alone a r held ForStack h = absurd (law.of_data.globals.plans.apart p f s b ForStack (ForRegion r) a (λ e. cc) h held)
  alone a r held ForMonitor h = absurd (law.of_data.globals.plans.apart p f s b ForMonitor (ForRegion r) a (λ e. cc) h held)
  alone a r held (ForRegion q) h = ⊎_elim (λ e. e) (λ d. absurd (law.of_data.globals.plans.apart p f s b (ForRegion q) (ForRegion r) a d h held)) (same_or_other (ForRegion q) (ForRegion r) tt tt)
  alone a r held ForUnwritten h = absurd (law.of_data.globals.plans.apart p f s b ForUnwritten (ForRegion r) a (λ e. cc) h held)

  in_data : (may : ObjId → Bool) (a r : ℕ) → r < length f.regions → HoldsAddress p f l (ForRegion r) a → ((x : ℕ) → has (region_at f.regions r).globals x ≡ true → may (Global x) ≡ true) → IsInData w n f b may a
  in_data may a r lt held may_global =
      let inside = ranges.inside law.of_data.globals.plans planned r lt in
      let low = inside.0 in
      let high = inside.1 in
      let from = held.0 in
      let to = held.1 in
      let within = open_within (region_spot l r).size (region_bytes p (region_at f.regions r).globals) in
      record {
        from = omega (arith, low, from);
        to = omega (arith, high, to, within);
        region = r;
        there = lt;
        held = held;
        alone = alone a r held;
        permitted = one;
      }
    where
      one : (x : ℕ) → x < length p.globals → IsByteOf w n f b x a → may (Global x) ≡ true
      one x m byte =
          let i = placed law.of_data.globals planned x m in
          let same = alone a r held i.use_of (byte_held law.of_data.globals planned x i a (record { low = byte.0; high = byte.1 })) in
          may_global x (subst (λ u. has (globals_for f u) x ≡ true) same i.has_it)

  -- ---- peripherals

  open_range : (may : ObjId → Bool) (a : ℕ) (d : Cover) → IsFilled p apart_windows d → ((q : ℕ) → is_inside (cover_of p q) d ≡ true → may (Periph q) ≡ true) → (m : ℕ) → m < 16
      → holds (use_region m (cover_slot d)) a ≡ true → IsOnPeripherals w n f b may a d
  open_range may a d filled may_periph m number h =
      let part = filled.part in
      let exact = part.size in
      let least = pow_mono {i = 5} {j = part.power} part.least in
      let most = pow_mono {i = part.power} {j = 29} part.most in
      let i = (law.of_data.held m d.base d.size 0 Device number (part.power, exact) (omega (arith, exact, least)) (omega (arith, exact, most)) (subst (λ z. d.base % z ≡ 0) (sym exact) part.aligned) (lit< tt) a).0 h in
      let whole : (q z : ℕ) → q < length p.periphs → IsOf (cover_of p q) z → IsOf d z → is_inside (cover_of p q) d ≡ true = whole_inside p apart_windows d filled in
      record {
        holds = (i.from_base, i.below_end);
        from = part.from;
        to = part.to;
        whole = whole;
        permitted = λ q z lt here there. may_periph q (whole q z lt here there);
      }

  -- ---- one of the slots

  module _ (may : ObjId → Bool) (c a : ℕ) (Q : Region → Type 0) (holds_it : (g : Region) → Q g → holds g a ≡ true)
      (may_global : (r m : ℕ) → is_user c (region_at f.regions r) ≡ true → r < length f.regions → Q (use_region m (data_slot p f l c r)) → (x : ℕ) → has (region_at f.regions r).globals x ≡ true → may (Global x) ≡ true)
      (may_periph : (q : ℕ) → list_any (is_inside (cover_of p q)) (get_or f.covers c []) ≡ true → may (Periph q) ≡ true) where
    abbrev Goal : Type 0
    Goal = IsPermitted w n f b may c a

    data_serves : (r : ℕ) → (r < length f.regions) × (is_user c (region_at f.regions r) ≡ true) → Serves Q Goal (data_slot p f l c r)
    data_serves r (lt, user) m number q =
        InData (in_data may a r lt ((slot_holds law.of_data planned c r a m lt number).0 (holds_it (use_region m (data_slot p f l c r)) q)) (may_global r m user lt q))

    abbrev covers : List Cover
    covers = get_or f.covers c []

    abbrev IsGood : Cover → Type 0
    IsGood d = IsFilled p apart_windows d × (((x : Cover) → is_inside x d ≡ true → list_any (is_inside x) covers ≡ true) × (IsOnPeripherals w n f b may a d → AnyOf (IsOnPeripherals w n f b may a) covers))

    good : Each IsGood covers
    good =
        each_two (IsFilled p apart_windows) (λ d. ((x : Cover) → is_inside x d ≡ true → list_any (is_inside x) covers ≡ true) × (IsOnPeripherals w n f b may a d → AnyOf (IsOnPeripherals w n f b may a) covers)) covers
        (covers_are_filled p apart_windows n f (slots_of b) ok.final c)
        (each_two (λ d. (x : Cover) → is_inside x d ≡ true → list_any (is_inside x) covers ≡ true) (λ d. IsOnPeripherals w n f b may a d → AnyOf (IsOnPeripherals w n f b may a) covers) covers
        (each_passes is_inside covers) (each_among (IsOnPeripherals w n f b may a) covers))

    cover_serves : (d : Cover) → IsGood d → Serves Q Goal (cover_slot d)
    cover_serves d (filled, has_it) m number q =
        OnPeripherals (has_it.1 (open_range may a d filled (λ x e. may_periph x (has_it.0 (cover_of p x) e)) m number (holds_it (use_region m (cover_slot d)) q)))

    slot_permits : AnyOf Q (compartment_at (planned_tables w n f b) c).slots → Goal
    slot_permits = slot_serves planned c a Q Goal holds_it IsGood data_serves cover_serves (λ lt. good)

  -- ---- who may store and load

  write_global : (c r x : ℕ) → r < length f.regions → has (region_at f.regions r).writers c ≡ true → has (region_at f.regions r).globals x ≡ true → may_write p n f c (Global x) ≡ true
  unfolding may_write
  write_global c r x lt writer it =
      list_any_at (λ (q : data_region.DataRegion). has q.writers c && has q.globals x) f.regions r no_region lt (both (has (region_at f.regions r).writers c) (has (region_at f.regions r).globals x) writer it)

  read_global : (c r x : ℕ) → r < length f.regions → is_user c (region_at f.regions r) ≡ true → has (region_at f.regions r).globals x ≡ true → may_read p n f c (Global x) ≡ true
  unfolding may_read
  read_global c r x lt user it =
      list_any_at (λ (q : data_region.DataRegion). is_user c q && has q.globals x) f.regions r no_region lt (both (is_user c (region_at f.regions r)) (has (region_at f.regions r).globals x) user it)

  write_periph : (c q : ℕ) → list_any (is_inside (cover_of p q)) (get_or f.covers c []) ≡ true → may_write p n f c (Periph q) ≡ true
  unfolding may_write
  write_periph c q e = e

  read_periph : (c q : ℕ) → list_any (is_inside (cover_of p q)) (get_or f.covers c []) ≡ true → may_read p n f c (Periph q) ≡ true
  unfolding may_read
  read_periph c q e = e

  pub slots_are_permitted : SlotsArePermitted w n f b
  slots_are_permitted =
      record {
        stores = λ c a h. slot_permits (may_write p n f c) c a (Stores a) (λ g q. q.0)
            (λ r m user lt q x it. write_global c r x lt (writes_there law.of_data planned c a r m q) it) (write_periph c) h;
        loads = λ c a h. slot_permits (may_read p n f c) c a (λ (g : Region). holds g a ≡ true) (λ g q. q)
            (λ r m user lt q x it. read_global c r x lt user it) (read_periph c) h;
      }

pub slots_hold_permissions : SlotLaws → WindowsLieApart → SlotsHoldPermissions
slots_hold_permissions law windows w n f b ok = slots_are_permitted law windows (planned_of ok)

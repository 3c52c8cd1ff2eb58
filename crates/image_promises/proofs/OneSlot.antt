-- A slot is free or that of a data region or a cover of its compartment, and what is open of a block.
use Rattle.std.proofs.Common.{◌≡◌, ℕ, zero, suc, ◌+◌, ◌*◌, ◌/◌, ◌<◌, ◌≤◌, inl, inr, Bool, true, false, ◌&&◌, cond, List, [], ◌∷◌, length, map, get_or, nat_lt, refl, sym, ◌∙◌, subst, arith}
use Rattle.std.proofs.lemmas.Bool.{ltb-true, cases_lt}
use Rattle.std.proofs.lemmas.List.{get_or_past}
use Rattle.std.proofs.lemmas.List.FromFn.{length-map-range_with_len}
use mathlib.Core.Logic.{⊎_elim}
use Rattle.machine_model.specs.Confinement.{AnyOf}
use Rattle.machine_protection.specs.declared.region.Region.{Region}
use Rattle.machine_protection.specs.Regions.{holds}
use Rattle.base_laws.specs.Lists.{Each}
use Rattle.ir_model.specs.Resolve.{resolve}
use Rattle.ir_model.specs.Resolved.{Program}
use Rattle.ir_laws.specs.Limits.{WindowsLieApart}
use Rattle.plan_model.specs.declared.graph.Cover.{Cover}
use Rattle.plan_model.specs.declared.plan.Plan.{Plan}
use Rattle.plan_model.specs.Boards.{slots_of}
use Rattle.plan_model.specs.Lists.{numbers_below}
use Rattle.plan_model.specs.Regions.{region_at, regions_used, is_user}
use Rattle.plan_model.specs.Blocks.{has_eighths, open_eighths}
use Rattle.plan_model.specs.Slots.{SlotUse, free_slot, data_slot, cover_slot, slot_uses, slots_from}
use Rattle.plan_layout_laws.specs.RamLaws.{open_bytes}
use Rattle.monitor_model.specs.declared.tables.CompRecord.{CompRecord}
use Rattle.monitor_model.specs.Records.{compartment_at, nobody}
use Rattle.image_model.specs.LinkedTables.{tables_of, comp_record}
use Rattle.image_promises.specs.Planned.{planned_tables}
use Rattle.plan.specs.PlannedFirmwares.{plan}
use Rattle.base_laws.proofs.Lists.{each_both}
use Rattle.image_promises.proofs.PlannedPremises.{PlannedPremises}
use Rattle.image_promises.proofs.PlannedSlots.{slot_limits, slots_at}
use Rattle.image_promises.proofs.Lists.{each_passing, each_map, below_all}
use Rattle.image_promises.proofs.Bearing.{use_region}
use Rattle.image_promises.proofs.DataSlots.{DataLaws}

-- what slots rest on, with no count of them
pub record OwnSlotLaws : Type 0 where
  pub of_data : DataLaws
  pub windows : WindowsLieApart

free_holds : (a number : ℕ) → holds (free_slot number) a ≡ false
unfolding holds
free_holds a number = refl

-- one of some slots is free, or that of one of these uses
one_slot : (Q : Region → Type 0) (Goal : Type 0) → ((number : ℕ) → Q (free_slot number) → Goal) → (us : List SlotUse) (n k : ℕ) → n + k ≤ 16
    → Each (λ u. (m : ℕ) → m < 16 → Q (use_region m u) → Goal) us → AnyOf Q (slots_from n k us) → Goal
one_slot Q Goal free us n zero l e h = absurd h
one_slot Q Goal free [] n (suc k) l e (inl q) = free n q
one_slot Q Goal free [] n (suc k) l e (inr h) = one_slot Q Goal free [] (suc n) k (omega (arith, l)) tt h
one_slot Q Goal free (u ∷ us) n (suc k) l e (inl q) = e.0 n (omega (arith, l)) q
one_slot Q Goal free (u ∷ us) n (suc k) l e (inr h) = one_slot Q Goal free us (suc n) k (omega (arith, l)) e.1 h

times : (a b n : ℕ) → a ≤ b → n * a ≤ n * b
times a b n le = grind (arith, le)

-- no more bytes are open than the block has
pub open_within : (size bytes : ℕ) → open_bytes size bytes ≤ size
open_within size bytes = by (has_eighths size) (nat_lt (open_eighths size bytes) 8) refl
  where
    by : (t u : Bool) → nat_lt (open_eighths size bytes) 8 ≡ u → cond (t && u) (size / 8 * open_eighths size bytes) size ≤ size
    by true true e =
        let few = ltb-true (open_eighths size bytes) 8 e in
        let m = times (open_eighths size bytes) 8 (size / 8) (omega (arith, few)) in
        omega (arith, m)
    by true false e = omega arith
    by false u e = omega arith

-- ---- a slot of a compartment

-- a use that serves: where its slot has what is asked, the goal holds
abbrev pub Serves : (Q : Region → Type 0) (Goal : Type 0) → SlotUse → Type 0
Serves Q Goal u = (m : ℕ) → m < 16 → Q (use_region m u) → Goal

module _ (planned : PlannedPremises) where
  open planned use {firmware as w, needs as n, final as f, board as b}

  abbrev p : Program
  p = resolve w

  abbrev l : Plan
  l = plan w n f b

  -- a compartment whose data regions and covers serve; each slot that has what is asked holds the address
  module _ (c a : ℕ) (Q : Region → Type 0) (Goal : Type 0) (holds_it : (g : Region) → Q g → holds g a ≡ true) (IsGood : Cover → Type 0)
      (data_serves : (r : ℕ) → (r < length f.regions) × (is_user c (region_at f.regions r) ≡ true) → Serves Q Goal (data_slot p f l c r))
      (cover_serves : (d : Cover) → IsGood d → Serves Q Goal (cover_slot d)) (good : c < f.groups.count → Each IsGood (get_or f.covers c [])) where
    used : Each (λ r. (r < length f.regions) × (is_user c (region_at f.regions r) ≡ true)) (regions_used f.regions c)
    used =
        each_passing (λ r. r < length f.regions) (λ r. (r < length f.regions) × (is_user c (region_at f.regions r) ≡ true)) (λ r. is_user c (region_at f.regions r)) (numbers_below (length f.regions))
        (λ r lt t. (lt, t)) (below_all 0 (length f.regions) (length f.regions) (omega arith))

    all_serve : c < f.groups.count → Each (Serves Q Goal) (slot_uses p f l c)
    all_serve lt =
        each_both (Serves Q Goal) (map (data_slot p f l c) (regions_used f.regions c)) (map cover_slot (get_or f.covers c []))
        (each_map (Serves Q Goal) (data_slot p f l c) (λ r. (r < length f.regions) × (is_user c (region_at f.regions r) ≡ true)) (regions_used f.regions c) data_serves used)
        (each_map (Serves Q Goal) cover_slot IsGood (get_or f.covers c []) cover_serves (good lt))

    -- where one of its slots has what is asked, the goal holds
    pub slot_serves : AnyOf Q (compartment_at (planned_tables w n f b) c).slots → Goal
    unfolding tables_of
    slot_serves h = ⊎_elim inner outer (cases_lt c f.groups.count)
      where
        free : (number : ℕ) → Q (free_slot number) → Goal
        free number q = absurd (let none = free_holds a number in let wrong : false ≡ true = sym none ∙ holds_it (free_slot number) q in cc)

        inner : c < f.groups.count → Goal
        inner lt = one_slot Q Goal free (slot_uses p f l c) 4 (slots_of b) (slot_limits planned).1 (all_serve lt) (subst (AnyOf Q) (slots_at planned c lt) h)

        outer : f.groups.count ≤ c → Goal
        outer le =
            let size = length-map-range_with_len (comp_record p f l (slots_of b)) 0 f.groups.count in
            let none = get_or_past (map (comp_record p f l (slots_of b)) (numbers_below f.groups.count)) c nobody (omega (arith, size, le)) in
            absurd (subst (λ (r : CompRecord). AnyOf Q r.slots) none h)

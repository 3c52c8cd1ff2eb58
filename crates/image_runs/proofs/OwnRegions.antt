-- Each byte of RAM in a compartment's slots is of the block of one of its data regions.
use Rattle.std.proofs.Common.{◌≡◌, ℕ, ◌<◌, ◌%◌, Bool, true, length, sym, subst, lit<, arith}
use Rattle.std.proofs.Math.Pow.{pow_mono}
use Rattle.machine_model.specs.Confinement.{AnyOf}
use Rattle.machine_protection.specs.declared.region.Region.{Region}
use Rattle.machine_protection.specs.declared.words.Rights.TheVariants.{Device}
use Rattle.machine_protection.specs.Regions.{holds}
use Rattle.ir_model.specs.Resolve.{resolve}
use Rattle.ir_model.specs.Resolved.{Program}
use Rattle.plan_model.specs.declared.graph.Cover.{Cover}
use Rattle.plan_model.specs.declared.plan.Plan.{Plan}
use Rattle.plan_model.specs.Lists.{has}
use Rattle.plan_model.specs.Regions.{region_at, is_user}
use Rattle.plan_model.specs.Slots.{data_slot, cover_slot}
use Rattle.monitor_model.specs.Records.{compartment_at}
use Rattle.image_promises.specs.Planned.{planned_tables}
use Rattle.plan.specs.PlannedFirmwares.{plan}
use Rattle.image_promises.proofs.PlannedPremises.{PlannedPremises, planned_of, final_graph_of}
use Rattle.image_promises.proofs.Bearing.{use_region}
use Rattle.image_promises.proofs.CoverParts.{IsPart}
use Rattle.image_promises.proofs.CoverSlots.{covers_are_parts}
use Rattle.image_promises.proofs.DataSlots.{slot_holds, Stores, writes_there}
use Rattle.image_promises.proofs.OneSlot.{OwnSlotLaws, Serves, slot_serves}
use Rattle.image_runs.specs.Own.{IsInRegion, SlotsAreOwn, PlannedSlotsAreOwn}

module _ (law : OwnSlotLaws) (planned : PlannedPremises) where
  open planned use {firmware as w, needs as n, final as f, board as b, is_planned as ok}

  abbrev p : Program
  p = resolve w

  abbrev l : Plan
  l = plan w n f b

  module _ (passes : ℕ → Bool) (c a : ℕ) (low : a < 0x40000000) (Q : Region → Type 0) (holds_it : (g : Region) → Q g → holds g a ≡ true)
      (is_mine : (r m : ℕ) → is_user c (region_at f.regions r) ≡ true → Q (use_region m (data_slot p f l c r)) → passes r ≡ true) where
    abbrev Goal : Type 0
    Goal = IsInRegion w n f b passes a

    data_serves : (r : ℕ) → (r < length f.regions) × (is_user c (region_at f.regions r) ≡ true) → Serves Q Goal (data_slot p f l c r)
    data_serves r (lt, user) m number q = record {
      region = r;
      there = lt;
      mine = is_mine r m user q;
      held = (slot_holds law.of_data planned c r a m lt number).0 (holds_it (use_region m (data_slot p f l c r)) q);
    }

    -- the ranges of peripherals lie higher
    cover_serves : (d : Cover) → IsPart d → Serves Q Goal (cover_slot d)
    cover_serves d part m number q =
        let exact = part.size in
        let least = pow_mono {i = 5} {j = part.power} part.least in
        let most = pow_mono {i = part.power} {j = 29} part.most in
        let i = (law.of_data.held m d.base d.size 0 Device number (part.power, exact) (omega (arith, exact, least)) (omega (arith, exact, most)) (subst (λ z. d.base % z ≡ 0) (sym exact) part.aligned) (lit< tt) a).0 (holds_it (use_region m (cover_slot d)) q) in
        absurd (let x = part.from in let y = i.from_base in omega (arith, x, y, low))

    region_there : AnyOf Q (compartment_at (planned_tables w n f b) c).slots → Goal
    region_there = slot_serves planned c a Q Goal holds_it IsPart data_serves cover_serves (λ lt. covers_are_parts (final_graph_of planned) (law.windows w ok.typed) c)

  slots_are_own : SlotsAreOwn w n f b
  slots_are_own = record {
    stores = λ c a h low. region_there (λ r. has (region_at f.regions r).writers c) c a low (Stores a) (λ g q. q.0) (λ r m user q. writes_there law.of_data planned c a r m q) h;
    loads = λ c a h low. region_there (λ r. is_user c (region_at f.regions r)) c a low (λ (g : Region). holds g a ≡ true) (λ g q. q) (λ r m user q. user) h;
  }

pub planned_slots_are_own : OwnSlotLaws → PlannedSlotsAreOwn
planned_slots_are_own law w n f b ok = slots_are_own law (planned_of ok)

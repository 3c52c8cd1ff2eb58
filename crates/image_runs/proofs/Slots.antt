-- No address of devices in a compartment's slots is denied, where a firmware asks for nothing that is.
use Rattle.std.proofs.Common.{◌≡◌, ℕ, suc, ◌<◌, ◌≤◌, ◌+◌, ◌%◌, true, List, [], ◌∷◌, length, get_or, sym, subst, lit<, arith}
use Rattle.std.proofs.Math.Pow.{pow_mono}
use Rattle.machine_model.specs.Confinement.{AnyOf}
use Rattle.machine_protection.specs.declared.region.Region.{Region}
use Rattle.machine_protection.specs.declared.words.Rights.TheVariants.{Device}
use Rattle.machine_protection.specs.Regions.{holds}
use Rattle.base_laws.specs.Lists.{Each}
use Rattle.ir_model.specs.Resolve.{resolve}
use Rattle.ir_model.specs.Resolved.{Program}
use Rattle.plan_model.specs.declared.graph.Cover.{Cover}
use Rattle.plan_model.specs.declared.plan.Plan.{Plan}
use Rattle.plan_model.specs.Blocks.{block_size_for, region_bytes}
use Rattle.plan_model.specs.Covers.{no_cover}
use Rattle.plan_model.specs.Regions.{region_at, is_user}
use Rattle.plan_model.specs.RamBlocks.{ForRegion}
use Rattle.plan_model.specs.Placement.{region_spot}
use Rattle.plan_model.specs.Slots.{data_slot, cover_slot}
use Rattle.plan_layout_laws.specs.RamLaws.{HoldsAddress}
use Rattle.monitor_model.specs.Records.{compartment_at}
use Rattle.image_promises.specs.Planned.{planned_tables}
use Rattle.plan.specs.PlannedFirmwares.{plan}
use Rattle.image_promises.proofs.PlannedPremises.{PlannedPremises, final_graph_of}
use Rattle.image_promises.proofs.Ranges.{IsUse, block_in, block_size_is}
use Rattle.image_promises.proofs.CoverParts.{IsPart}
use Rattle.image_promises.proofs.CoverSlots.{covers_are_parts}
use Rattle.image_promises.proofs.DataSlots.{slot_holds}
use Rattle.image_promises.proofs.OneSlot.{OwnSlotLaws, open_within, Serves, slot_serves}
use Rattle.plan_model.specs.declared.denied_ranges.Denied.{Denied}
use Rattle.plan_model.specs.Denied.{InDenied}
use Rattle.plan_denials.specs.Meetings.{KeepsOff}
use Rattle.plan_denials.proofs.Apart.{cover_is_allowed}

-- what holds of each item, and of each by its place
with_places : {X : Type 0} (P Q : X → Type 0) (xs : List X) (d : X) → Each P xs → ((k : ℕ) → k < length xs → Q (get_or xs k d)) → Each (λ x. P x × Q x) xs
with_places P Q [] d e h = tt
with_places P Q (x ∷ xs) d e h = ((e.0, h 0 (omega arith)), with_places P Q xs d e.1 (λ k l. h (suc k) (omega (arith, l))))

module _ (law : OwnSlotLaws) (planned : PlannedPremises) (ds : List Denied) (off : KeepsOff ds (resolve planned.firmware) planned.final) where
  open planned use {firmware as w, needs as n, final as f, board as b, is_planned as ok}

  abbrev p : Program
  p = resolve w

  abbrev l : Plan
  l = plan w n f b

  module _ (c a : ℕ) (high : 0x40000000 ≤ a) where
    abbrev Goal : Type 0
    Goal = Each (λ d. InDenied d a → ⊥) ds

    abbrev Q : Region → Type 0
    Q g = holds g a ≡ true

    -- data lies lower
    data_serves : (r : ℕ) → (r < length f.regions) × (is_user c (region_at f.regions r) ≡ true) → Serves Q Goal (data_slot p f l c r)
    data_serves r (lt, user) m number q =
        let h : HoldsAddress p f (plan w n f b) (ForRegion r) a = (slot_holds law.of_data planned c r a m lt number).0 q in
        let u : IsUse f (ForRegion r) = record { of_globals = tt; there = lt } in
        let inside = (block_in law.of_data.globals.plans planned (ForRegion r) u).0 in
        let room = open_within (region_spot (plan w n f b) r).size (region_bytes p (region_at f.regions r).globals) in
        let x = h.1 in
        let y = inside.1 in
        let has : (region_spot (plan w n f b) r).size ≡ block_size_for (region_bytes p (region_at f.regions r).globals) = block_size_is law.of_data.globals.plans planned (ForRegion r) u in
        let base = ok.board.ram_highest in
        let size = ok.board.ram_size.most in
        absurd (omega (arith, x, y, has, room, base, size, high))

    abbrev IsAllowed : Cover → Type 0
    IsAllowed d = d.base ≤ a → a < d.base + d.size → Goal

    cover_serves : (d : Cover) → IsPart d × IsAllowed d → Serves Q Goal (cover_slot d)
    cover_serves d (part, allowed) m number q =
        let exact = part.size in
        let least = pow_mono {i = 5} {j = part.power} part.least in
        let most = pow_mono {i = part.power} {j = 29} part.most in
        let i = (law.of_data.held m d.base d.size 0 Device number (part.power, exact) (omega (arith, exact, least)) (omega (arith, exact, most)) (subst (λ z. d.base % z ≡ 0) (sym exact) part.aligned) (lit< tt) a).0 q in
        allowed i.from_base i.below_end

    covers : c < f.groups.count → Each (λ d. IsPart d × IsAllowed d) (get_or f.covers c [])
    covers runs =
        with_places IsPart IsAllowed (get_or f.covers c []) no_cover (covers_are_parts (final_graph_of planned) (law.windows w ok.typed) c)
        (λ k there lo hi. cover_is_allowed ds p f off c k no_cover runs there a lo hi)

    pub slot_is_allowed : AnyOf Q (compartment_at (planned_tables w n f b) c).slots → Goal
    slot_is_allowed = slot_serves planned c a Q Goal (λ g q. q) (λ d. IsPart d × IsAllowed d) data_serves cover_serves covers

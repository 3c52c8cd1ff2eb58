-- The globals that a compartment needs are open to it.
use Rattle.std.proofs.Common.{◌≡◌, ℕ, ◌<◌, ◌+◌, true, [], length, get_or, ap, ◌∙◌, arith}
use Rattle.std.specs.List.{list_any}
use Rattle.std.proofs.lemmas.Bool.{or_left, or_right}
use Rattle.machine_protection.specs.declared.region.Region.{Region}
use Rattle.machine_protection.specs.Regions.{holds}
use Rattle.machine_protection.specs.Protection.{deciding}
use Rattle.base_laws.specs.Lists.{Each}
use Rattle.ir_model.specs.declared.object.ObjId.TheVariants.{Global}
use Rattle.ir_model.specs.Resolve.{resolve}
use Rattle.ir_model.specs.Resolved.{Program}
use Rattle.ir_model.specs.State.{GlobalObject}
use Rattle.plan_model.specs.declared.plan.Plan.{Plan}
use Rattle.plan_model.specs.Boards.{slots_of}
use Rattle.plan_model.specs.Lists.{has, numbers_below}
use Rattle.plan_model.specs.Needs.{need_of, has_object}
use Rattle.plan_model.specs.Groups.{compartment_of, writes, reads}
use Rattle.plan_model.specs.Regions.{region_at, regions_used, is_user, global_size}
use Rattle.plan_model.specs.RamBlocks.{ForRegion}
use Rattle.plan_model.specs.Slots.{slot_uses}
use Rattle.plan_layout_laws.specs.RamLaws.{HoldsAddress}
use Rattle.need_laws.specs.Reached.{IsListed}
use Rattle.monitor_model.specs.Records.{compartment_at}
use Rattle.monitor_model.specs.Setting.{may_load, may_store, allows_stores}
use Rattle.image_promises.specs.Planned.{planned_tables, planned_image}
use Rattle.plan.specs.PlannedFirmwares.{plan, planned_sizes}
use Rattle.image_promises.proofs.PlannedPremises.{PlannedPremises, final_graph_of, global_address_of}
use Rattle.image_promises.proofs.PlannedSlots.{FitsSlots, slot_limits, slots_at, few_uses}
use Rattle.image_promises.proofs.Bearing.{written_stores, borne_holds}
use Rattle.image_promises.proofs.Compartments.{in_compartment}
use Rattle.image_promises.proofs.Reach.{one_of, has_listed}
use Rattle.image_promises.proofs.Lists.{passing_among, each_passing, below_all}
use Rattle.image_promises.proofs.FinalRegions as regions
use Rattle.image_promises.proofs.GlobalPlaces.{aligns}
use Rattle.image_promises.proofs.DataSlots.{DataLaws, written_data, borne_data}

-- what slots rest on
pub record SlotLaws : Type 0 where
  pub of_data : DataLaws
  pub few : FitsSlots

module _ (law : SlotLaws) (planned : PlannedPremises) where
  open planned use {firmware as w, needs as n, final as f, board as b, is_planned as ok}

  abbrev p : Program
  p = resolve w

  abbrev l : Plan
  l = plan w n f b

  -- ---- a compartment's slots

  -- those of its regions come first
  module _ (c : ℕ) (there : c < f.groups.count) (r : ℕ) (region : r < length f.regions) (a : ℕ) (it : HoldsAddress p f l (ForRegion r) a) where
    used : is_user c (region_at f.regions r) ≡ true → has (regions_used f.regions c) r ≡ true
    used u = passing_among (λ q. is_user c (region_at f.regions q)) r (length f.regions) region u

    used_below : Each (λ q. q < length f.regions) (regions_used f.regions c)
    used_below =
        each_passing (λ q. q < length f.regions) (λ q. q < length f.regions) (λ q. is_user c (region_at f.regions q)) (numbers_below (length f.regions)) (λ q h t. h)
        (below_all 0 (length f.regions) (length f.regions) (omega arith))

    region_stores : has (region_at f.regions r).writers c ≡ true → may_store (planned_tables w n f b) c a ≡ true
    unfolding may_store
    region_stores writer =
        ap (λ gs. allows_stores (deciding gs a)) (slots_at planned c there)
        ∙ written_stores a (slot_uses p f l c) 4 (slots_of b)
        (written_data law.of_data planned c a r region it writer (regions_used f.regions c) (get_or f.covers c []) used_below
        (used (or_left (has (region_at f.regions r).writers c) (has (region_at f.regions r).readers c) writer)))
        (few_uses law.few planned c there) (slot_limits planned).1

    region_loads : is_user c (region_at f.regions r) ≡ true → may_load (planned_image w n f b) (planned_tables w n f b) c a ≡ true
    unfolding may_load
    region_loads user =
        or_right _ _
        (or_left (list_any (λ (g : Region). holds g a) (compartment_at (planned_tables w n f b) c).slots) _
        (ap (list_any (λ (g : Region). holds g a)) (slots_at planned c there)
        ∙ borne_holds a (slot_uses p f l c) 4 (slots_of b)
        (borne_data law.of_data planned c a r region it (regions_used f.regions c) (get_or f.covers c []) (used user))
        (few_uses law.few planned c there) (slot_limits planned).1))

  -- ---- a function's needs

  held_at : (x j r : ℕ) → j < global_size p x → r < length f.regions → has (region_at f.regions r).globals x ≡ true → HoldsAddress p f l (ForRegion r) (global_address_of planned x + j)
  held_at x j r k h i = (law.of_data.globals.held p f (planned_sizes w n f b) b ok.board ok.fits (aligns law.of_data.globals planned) x j k).0 r (regions.region_is (final_graph_of planned) r x h i)

  pub stores : (g x j : ℕ) → g < length p.funcs → IsListed (need_of n g).written (GlobalObject x) → x < length p.globals → j < global_size p x
      → may_store (planned_tables w n f b) (compartment_of f.groups g) (global_address_of planned x + j) ≡ true
  stores g x j m listed there k =
      let c = compartment_of f.groups g in
      let inn = in_compartment p f.groups ok.groups g m in
      let writer : writes n f.groups c (Global x) ≡ true = one_of f.groups (λ y. has_object (need_of n y).written (Global x)) g inn.listed (has_listed (need_of n g).written (GlobalObject x) listed) in
      let some = regions.in_region (final_graph_of planned) x there (regions.written_used (final_graph_of planned) x c inn.below writer) in
      region_stores c inn.below some.0 some.1 (global_address_of planned x + j) (held_at x j some.0 k some.1 some.2) (regions.writers (final_graph_of planned) x c inn.below writer some.0 some.1 some.2)

  pub closed_loads : b.closed ≡ true → (g x j : ℕ) → g < length p.funcs → IsListed (need_of n g).read (GlobalObject x) → x < length p.globals → j < global_size p x
      → may_load (planned_image w n f b) (planned_tables w n f b) (compartment_of f.groups g) (global_address_of planned x + j) ≡ true
  closed_loads closed g x j m listed there k =
      let c = compartment_of f.groups g in
      let inn = in_compartment p f.groups ok.groups g m in
      let kind : n.closed ≡ true = ok.needs.kind ∙ closed in
      let reader : reads n f.groups c (Global x) ≡ true = one_of f.groups (λ y. has_object (need_of n y).read (Global x)) g inn.listed (has_listed (need_of n g).read (GlobalObject x) listed) in
      let some = regions.in_region (final_graph_of planned) x there (regions.read_used (final_graph_of planned) x c kind inn.below reader) in
      region_loads c inn.below some.0 some.1 (global_address_of planned x + j) (held_at x j some.0 k some.1 some.2)
      (or_right (has (region_at f.regions some.0).writers c) (has (region_at f.regions some.0).readers c) (regions.readers (final_graph_of planned) x c kind inn.below reader some.0 some.1 some.2))

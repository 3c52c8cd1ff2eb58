-- The record of a crossing site has each function that may be called there.
use Rattle.std.proofs.Common.{◌≡◌, ◌≢◌, ℕ, ◌+◌, ◌<◌, ◌≤◌, ◌&&◌, Bool, true, false, List, length, map, take, get_or, nat_eq, Some, refl, ap, ◌∙◌, eqb-true, arith}
use Rattle.std.specs.Prelude.{Contains}
use Rattle.std.proofs.lemmas.Bool.{and_parts, eqb-false}
use Rattle.std.proofs.lemmas.List.{get_or-map}
use Rattle.std.proofs.lemmas.List.Elements.{Contains-get_or}
use Rattle.std.proofs.lemmas.List.FromFn.{get_or-map-range_with_len}
use Rattle.std.proofs.lemmas.List.Quantifiers.{position-Some}
use mathlib.Core.Logic.{⊎_elim}
use Rattle.ir_model.specs.Resolve.{resolve}
use Rattle.ir_model.specs.Resolved.{Program, func_at}
use Rattle.ir_laws.specs.Typed.{TypedOverNumbers, sizes_of}
use Rattle.plan_model.specs.declared.needs.SiteNeed.{SiteNeed}
use Rattle.plan_model.specs.declared.needs.Needs.{Needs}
use Rattle.plan_model.specs.declared.graph.Final.{Final}
use Rattle.plan_model.specs.declared.plan.Spot.{Spot}
use Rattle.plan_model.specs.declared.plan.Sizes.{Sizes}
use Rattle.plan_model.specs.declared.plan.Plan.{Plan}
use Rattle.plan_model.specs.Blocks.{block_size_for}
use Rattle.plan_model.specs.Placement.{compartment_spot, no_spot}
use Rattle.plan_model.specs.Groups.{compartment_of}
use Rattle.plan_model.specs.Crossing.{crossing_sites, stands_at, site_number, target_count}
use Rattle.need_laws.specs.Reached.{HasTarget}
use Rattle.code_model.specs.Sizes.{site_offset}
use Rattle.code_model.specs.FunctionCode as code
use Rattle.code_model.specs.CompartmentCode.{compartment_size}
use Rattle.code_model.specs.Planned.{code_groups, planned_entry}
use Rattle.monitor_model.specs.declared.tables.Tables.{Tables}
use Rattle.monitor_model.specs.declared.tables.SiteRecord.{SiteRecord}
use Rattle.monitor_model.specs.Records.{no_site, last_with_entry, targets_of}
use Rattle.monitor_model.specs.Setting.{has_target, leads_to}
use Rattle.monitor_program.specs.TheCode.{monitor_code}
use Rattle.refine.specs.Builds.{entry_at, half_at, places_at}
use Rattle.image_model.specs.Laws.{CountsAgree}
use Rattle.image_model.specs.LinkedTables.{planned_places, return_address, site_records, target_record, tables_of}
use Rattle.image_promises.specs.Planned.{planned_tables}
use Rattle.plan.specs.PlannedFirmwares.{plan, planned_sizes}
use Rattle.image_promises.proofs.PlannedPremises.{PlannedPremises, planned_of}
use Rattle.image_promises.proofs.Facts.{PlanLaws, laid, code_block_is, code_blocks_count}
use Rattle.image_promises.proofs.FlashParts.{code_count, code_size_is}
use Rattle.image_promises.proofs.Passing.{and_yes, lt_yes, eq_yes}
use Rattle.image_promises.specs.Parts.{linked_build, CodeIsPlaced, IsPlaced}
use Rattle.image_promises.specs.Sites.{TargetsAreThere}
use Rattle.image_promises.proofs.Called.{targets_at, called_there, target_there, crossing_listed}
use Rattle.image_promises.proofs.Entries.{code_inside}
use Rattle.image_promises.proofs.LastTarget.{last_leads}
use Rattle.image_promises.proofs.SiteRecords.{record_at, targets_behind}

-- the laws that this stands on
pub record TargetLaws : Type 0 where
  pub plans : PlanLaws
  pub placed : CodeIsPlaced
  pub counts : CountsAgree
  pub typing : TypedOverNumbers

-- where the halfword of a call's site stands
abbrev half_of : Program → Needs → Final → Plan → (func block inst : ℕ) → ℕ
half_of p n f l g b k = planned_entry p n f l g + site_offset (func_at p g) (planned_places p n f l g).sites (code.lent (func_at p g) (planned_places p n f l g)) b k

module _ (law : TargetLaws) (planned : PlannedPremises) where
  open planned use {firmware as w, needs as n, final as f, board as b, is_planned as is}

  abbrev p : Program
  p = resolve w

  abbrev s : Sizes
  s = planned_sizes w n f b

  abbrev l : Plan
  l = plan w n f b

  abbrev t : Tables
  t = planned_tables w n f b

  placed : IsPlaced (linked_build monitor_code w n f b)
  placed = law.placed monitor_code w n f b is

  -- ---- entries of functions of different compartments differ

  -- the entry of a function lies in its compartment's block
  entry_in_block : (h : ℕ) → h < length p.funcs
      → ((compartment_spot l (compartment_of f.groups h)).base ≤ planned_entry p n f l h) × (planned_entry p n f l h < (compartment_spot l (compartment_of f.groups h)).base + (compartment_spot l (compartment_of f.groups h)).size)
  entry_in_block h lt =
      let c = compartment_of f.groups h in
      let below = placed.each h lt in
      let all = placed.count in
      let counted = code_blocks_count law.plans planned in
      let count = code_count p f s b in
      let there : c < length s.code = omega (arith, below, counted) in
      let base : get_or (map (λ (x : Spot). x.base) l.code) c 0 ≡ (compartment_spot l c).base = get_or-map (λ (x : Spot). x.base) l.code c no_spot 0 (omega (arith, there, count)) in
      let size : (compartment_spot l c).size ≡ block_size_for (get_or s.code c 0) = code_size_is p f s b c there in
      let room = (code_block_is law.plans planned c there).1 in
      let code : get_or s.code c 0 ≡ compartment_size p (code_groups p n f.groups) c =
      get_or-map-range_with_len (compartment_size p (code_groups p n f.groups)) 0 f.groups.count c c 0 below (let e : 0 + c ≡ c = omega arith in e) in
      let inside = code_inside p (code_groups p n f.groups) h c (omega (arith, all, lt)) refl in
      (omega (arith, base), omega (arith, base, size, room, code, inside))

  same_compartment : (g h : ℕ) → g < length p.funcs → h < length p.funcs → planned_entry p n f l g ≡ planned_entry p n f l h → compartment_of f.groups g ≡ compartment_of f.groups h
  same_compartment g h lg lh e = by (nat_eq (compartment_of f.groups g) (compartment_of f.groups h)) refl
    where
      other : compartment_of f.groups g ≢ compartment_of f.groups h → ⊥
      other ne =
          let a = entry_in_block g lg in
          let d = entry_in_block h lh in
          let a0 = a.0 in
          let a1 = a.1 in
          let d0 = d.0 in
          let d1 = d.1 in
          let counted = code_blocks_count law.plans planned in
          let count = code_count p f s b in
          let bg = placed.each g lg in
          let bh = placed.each h lh in
          ⊎_elim (λ q. absurd (omega (arith, a0, a1, d0, d1, e, q))) (λ q. absurd (omega (arith, a0, a1, d0, d1, e, q)))
          ((laid law.plans planned).apart (compartment_of f.groups g) (compartment_of f.groups h) (omega (arith, bg, counted, count)) (omega (arith, bh, counted, count)) ne)

      by : (x : Bool) → nat_eq (compartment_of f.groups g) (compartment_of f.groups h) ≡ x → compartment_of f.groups g ≡ compartment_of f.groups h
      by true q = eqb-true _ _ q
      by false q = absurd (other (eqb-false _ _ q))

  -- ---- the record of a site

  -- the crossing site that stands at a place
  record StandsThere (g k m i : ℕ) (d : SiteNeed) : Type 0 where
    below : i < length (crossing_sites n f.groups)
    func : (get_or (crossing_sites n f.groups) i d).func ≡ g
    block : (get_or (crossing_sites n f.groups) i d).block ≡ k
    inst : (get_or (crossing_sites n f.groups) i d).inst ≡ m

  stands_there : (g k m i : ℕ) (d : SiteNeed) → site_number n f.groups g k m ≡ Some i → StandsThere g k m i d
  unfolding site_number
  stands_there g k m i d e =
      let q = position-Some (stands_at g k m) (crossing_sites n f.groups) i d e in
      let x : SiteNeed = get_or (crossing_sites n f.groups) i d in
      let one = and_parts (nat_eq x.func g) (nat_eq x.block k && nat_eq x.inst m) q.1 in
      let two = and_parts (nat_eq x.block k) (nat_eq x.inst m) one.1 in
      record { below = q.0; func = eqb-true _ _ one.0; block = eqb-true _ _ two.0; inst = eqb-true _ _ two.1 }

  targets_there : (g k m i h : ℕ) → site_number n f.groups g k m ≡ Some i → HasTarget n g k m h → has_target t i (half_of p n f l g k m) (planned_entry p n f l h) (compartment_of f.groups h) ≡ true
  unfolding has_target tables_of
  targets_there g k m i h e has =
      let d : SiteNeed = has.site in
      let ss : List SiteNeed = crossing_sites n f.groups in
      let q = stands_there g k m i d e in
      let x : SiteNeed = get_or ss i d in
      let c : Contains ss x = Contains-get_or ss i d q.below in
      let called = (targets_at p is.sets b.closed n is.needs has.site has.listed g k m has.func has.block has.inst).each h has.target in
      let listed : Contains x.targets h = (targets_at p is.sets b.closed n is.needs x (crossing_listed n f.groups x c) g k m q.func q.block q.inst).all h called in
      let typed = law.typing w is.typed is.within in
      let lh = called_there p (sizes_of w) is.sets typed is.are_sets g k m h called in
      let first : ℕ = target_count (take i ss) in
      let r : SiteRecord = record { ret = return_address p n f l x; first = first; count = length x.targets } in
      let is_record : get_or (site_records p n f l 0 ss) i no_site ≡ r = record_at p n f l 0 ss i first d (omega arith) q.below in
      let count = law.counts.sites p n f l b in
      let below = q.below in
      let ret : return_address p n f l x ≡ half_of p n f l g k m =
      ap (λ z. half_of p n f l z x.block x.inst) q.func ∙ (ap (λ z. half_of p n f l g z x.inst) q.block ∙ ap (λ z. half_of p n f l g k z) q.inst) in
      let leads : leads_to (last_with_entry (planned_entry p n f l h + 1) (map (target_record p n f l) x.targets)) (compartment_of f.groups h) ≡ true =
      last_leads (planned_entry p n f l) (compartment_of f.groups) x.targets h listed
      (λ y j same. same_compartment y h (target_there p (sizes_of w) is.sets typed is.are_sets b.closed n is.needs x (crossing_listed n f.groups x c) y j) lh same) in
      and_yes (lt_yes (omega (arith, count, below)))
      (and_yes (eq_yes (ap (λ (y : SiteRecord). y.ret) is_record ∙ ret))
      (ap (λ (y : SiteRecord). leads_to (last_with_entry (planned_entry p n f l h + 1) (targets_of t y)) (compartment_of f.groups h)) is_record
      ∙ (ap (λ ts. leads_to (last_with_entry (planned_entry p n f l h + 1) ts) (compartment_of f.groups h)) (targets_behind p n f l ss i first d refl q.below) ∙ leads)))

pub targets_are_there : TargetLaws → TargetsAreThere
unfolding half_at entry_at places_at
targets_are_there law code w n f b is g k m i h lt e has = targets_there law (planned_of is) g k m i h e has

-- The check of sites passes.
use Rattle.std.proofs.Common.{◌≡◌, ℕ, ◌+◌, ◌%◌, ◌<◌, true, length, refl, arith}
use Rattle.std.specs.Prelude.{Contains}
use Rattle.base_laws.specs.Lists.{Each}
use Rattle.ir_model.specs.Resolve.{resolve}
use Rattle.ir_model.specs.Resolved.{Program}
use Rattle.ir_laws.specs.Typed.{TypedOverNumbers, sizes_of}
use Rattle.plan_model.specs.declared.needs.SiteNeed.{SiteNeed}
use Rattle.plan_model.specs.declared.plan.Plan.{Plan}
use Rattle.plan_model.specs.Groups.{compartment_of}
use Rattle.plan_model.specs.Crossing.{crossing_sites}
use Rattle.code_model.specs.Laws.{CompartmentsHold}
use Rattle.code_model.specs.Planned.{code_groups, code_places, planned_entry}
use Rattle.monitor_model.specs.declared.tables.Tables.{Tables}
use Rattle.monitor_model.specs.Layout.{sites_at, targets_at}
use Rattle.monitor_model.specs.Checks.{is_site, is_entry, is_target}
use Rattle.monitor_program.specs.TheCode.{monitor_code}
use Rattle.refine.specs.Builds.{Build}
use Rattle.image_model.specs.Laws.{CountsAgree}
use Rattle.image_model.specs.LinkedTables.{site_records, target_records, tables_of}
use Rattle.image_promises.specs.Planned.{planned_tables}
use Rattle.plan.specs.PlannedFirmwares.{plan}
use Rattle.plan_model.proofs.KeptLimits.{few}
use Rattle.image_promises.proofs.PlannedPremises.{PlannedPremises, planned_of}
use Rattle.image_promises.proofs.Passing.{and_yes, lt_yes, eq_yes, must_yes, then_yes, each_yes}
use Rattle.image_promises.specs.Parts.{linked_build, CodeIsPlaced, IsPlaced}
use Rattle.image_promises.specs.Sites.{SitesPass}
use Rattle.image_promises.proofs.Called.{target_there, crossing_listed, crossing_some}
use Rattle.image_promises.proofs.Entries.{code_inside}
use Rattle.image_promises.proofs.SiteRecords.{sites_right, targets_right}

-- the laws that this stands on
pub record SiteLaws : Type 0 where
  pub placed : CodeIsPlaced
  pub code : CompartmentsHold
  pub counts : CountsAgree
  pub typing : TypedOverNumbers

module _ (law : SiteLaws) (planned : PlannedPremises) where
  open planned use {firmware as w, needs as n, final as f, board as b, is_planned as is}

  abbrev p : Program
  p = resolve w

  abbrev l : Plan
  l = plan w n f b

  abbrev t : Tables
  t = planned_tables w n f b

  abbrev k : Build
  k = linked_build monitor_code w n f b

  placed : IsPlaced k
  placed = law.placed monitor_code w n f b is

  -- the entry of a function is odd, and in the code of its compartment
  entry_passes : (h : ℕ) → h < length p.funcs → is_entry t (planned_entry p n f l h + 1) (compartment_of f.groups h) ≡ true
  entry_passes h lt =
      let below = placed.each h lt in
      let count = law.counts.comps p n f l b in
      let four = law.code.entries p (code_groups p n f.groups) (code_places p n f l) placed.aligned h in
      let all = placed.count in
      let c = compartment_of f.groups h in
      let room = code_inside p (code_groups p n f.groups) h c (omega (arith, all, lt)) refl in
      and_yes (lt_yes (omega (arith, below, count)))
      (and_yes (eq_yes (odd (planned_entry p n f l h) four)) (placed.inside c (planned_entry p n f l h + 1) below (omega arith) (omega (arith, room))))
    where
      odd : (e : ℕ) → e % 4 ≡ 0 → (e + 1) % 2 ≡ 1
      odd e h = omega (arith, h)

  -- a target of a crossing site is there
  there : (s : SiteNeed) → Contains (crossing_sites n f.groups) s → (h : ℕ) → Contains s.targets h → h < length p.funcs
  there s c h i = target_there p (sizes_of w) is.sets (law.typing w is.typed is.within) is.are_sets b.closed n is.needs s (crossing_listed n f.groups s c) h i

  sites_each : Each (λ r. is_site t r ≡ true) (site_records p n f l 0 (crossing_sites n f.groups))
  sites_each =
      let count = law.counts.targets p n f l b in
      sites_right p n f l t 0 (crossing_sites n f.groups) (omega (arith, count)) (few n f.groups is.limits).targets (crossing_some n f.groups)

  targets_each : Each (λ g. is_target t g ≡ true) (target_records p n f l (crossing_sites n f.groups))
  targets_each = targets_right p n f l (λ g. is_target t g ≡ true) (crossing_sites n f.groups) (λ s c h i. entry_passes h (there s c h i))

  main_there : p.main < length p.funcs
  main_there = (law.typing w is.typed is.within).main

pub sites_pass : SiteLaws → SitesPass
unfolding tables_of
sites_pass law w n f b is =
    let t = planned_tables w n f b in
    then_yes (each_yes (is_site t) (sites_at t) 12 (site_records (resolve w) n f (plan w n f b) 0 (crossing_sites n f.groups)) (sites_each law (planned_of is)))
    (then_yes (each_yes (is_target t) (targets_at t) 8 (target_records (resolve w) n f (plan w n f b) (crossing_sites n f.groups)) (targets_each law (planned_of is)))
    (must_yes _ t.base (entry_passes law (planned_of is) (resolve w).main (main_there law (planned_of is)))))

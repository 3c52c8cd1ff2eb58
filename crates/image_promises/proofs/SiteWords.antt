-- The words of sites and of their targets: addresses of code, and numbers of targets and of compartments.
use Rattle.std.proofs.Common.{◌≡◌, ℕ, ◌+◌, ◌<◌, ◌≤◌, List, [], ◌∷◌, length, map, get_or, flat_map, arith}
use Rattle.std.proofs.lemmas.Bool.{cases_lt}
use Rattle.std.proofs.lemmas.List.{get_or-map, get_or_past}
use Rattle.std.proofs.lemmas.List.Sums.{sum_by-cons}
use mathlib.Core.Logic.{⊎_elim}
use Rattle.base_laws.specs.Lists.{Each}
use Rattle.ir_model.specs.Resolve.{resolve}
use Rattle.ir_model.specs.Resolved.{Program, func_at}
use Rattle.ir_laws.specs.Typed.{TypedOverNumbers}
use Rattle.plan_model.specs.declared.needs.SiteNeed.{SiteNeed}
use Rattle.plan_model.specs.declared.plan.Plan.{Plan}
use Rattle.plan_model.specs.declared.plan.Sizes.{Sizes}
use Rattle.plan_model.specs.declared.plan.Spot.{Spot}
use Rattle.plan_model.specs.Boards.{slots_of}
use Rattle.plan_model.specs.Crossing.{crossing_sites, target_count}
use Rattle.plan_model.specs.Groups.{compartment_of}
use Rattle.plan_model.specs.Placement.{no_spot, compartment_spot}
use Rattle.plan_model.specs.TableSize.{table_bytes}
use Rattle.code_model.specs.FunctionCode.{lent}
use Rattle.code_model.specs.CompartmentCode.{compartment_size}
use Rattle.code_model.specs.Planned.{code_groups, code_places, planned_entry}
use Rattle.monitor_model.specs.declared.tables.TargetRecord.{TargetRecord}
use Rattle.monitor_model.specs.Area.{site_words, target_words}
use Rattle.image_model.specs.LinkedTables.{planned_places, return_address, site_records, target_record, target_records, tables_of}
use Rattle.image_promises.specs.Planned.{planned_tables}
use Rattle.plan.specs.PlannedFirmwares.{plan, planned_sizes}
use Rattle.image_promises.proofs.PlannedPremises.{PlannedPremises}
use Rattle.image_promises.proofs.AreaEnd.{has_compartments}
use Rattle.image_promises.proofs.Facts.{laid, code_blocks_count, needed_most, tables_at_most, tables_block_is}
use Rattle.image_promises.proofs.FlashParts.{code_count}
use Rattle.image_promises.proofs.ReadBack.{ReadLaws, code_length, code_fits}
use Rattle.plan_model.proofs.KeptLimits.{few}
use Rattle.image_promises.proofs.Compartments.{in_compartment}
use Rattle.image_promises.proofs.Lists.{each_map}
use Rattle.image_promises.proofs.WordLists.{IsWord, AreWords, each_flat}
use Rattle.image_promises.proofs.CodeEnds.{site_reaches, entry_reaches, function_reaches}
use Rattle.image_promises.proofs.SiteNeeds.{sites_inside}
use Rattle.base_laws.proofs.Lists.{each_of}
use Rattle.plan_model.proofs.Compartments.{each_compartment as all_placed}

module _ (law : ReadLaws) (typing : TypedOverNumbers) (planned : PlannedPremises) where
  open planned use {firmware as w, needs as n, final as f, board as b, is_planned as ok}

  abbrev p : Program
  p = resolve w

  abbrev s : Sizes
  s = planned_sizes w n f b

  abbrev l : Plan
  l = plan w n f b

  -- all tables together have at most a MiB
  pub tables_most : table_bytes p n f (slots_of b) ≤ 0x100000
  tables_most =
      let h = tables_at_most law.plans planned in
      let k = (tables_block_is law.plans planned).1 in
      let m = needed_most law.plans planned in
      omega (arith, h, k, m)

  -- ---- code lies in flash

  abbrev base_of : (compartment : ℕ) → ℕ
  base_of c = get_or (map (λ (x : Spot). x.base) l.code) c 0

  code_ends : (c : ℕ) → c < f.groups.count → base_of c + compartment_size p (code_groups p n f.groups) c ≤ 0x20000000
  code_ends c lt =
      let m = code_blocks_count law.plans planned in
      let e = code_count p f s b in
      let base : base_of c ≡ (compartment_spot l c).base = get_or-map (λ (x : Spot). x.base) l.code c no_spot 0 (omega (arith, lt, m, e)) in
      let long = code_length law planned c lt in
      let room = code_fits law planned c lt in
      let ends = ((laid law.plans planned).inside c (omega (arith, lt, m, e))).1 in
      let top = ok.board.flash_highest in
      let size = ok.board.flash_size.most in
      omega (arith, base, long, room, ends, top, size)

  -- each function, and what is none, counts to a compartment
  group_below : (h : ℕ) → compartment_of f.groups h < f.groups.count
  group_below h = ⊎_elim (λ lt. (in_compartment p f.groups ok.groups h lt).below) past (cases_lt h (length p.funcs))
    where
      past : length p.funcs ≤ h → compartment_of f.groups h < f.groups.count
      past le =
          let size = all_placed p f.groups ok.groups in
          let none : compartment_of f.groups h ≡ 0 = get_or_past f.groups.of h 0 (omega (arith, size, le)) in
          let least = has_compartments typing planned in
          omega (arith, none, least)

  entry_below : (h : ℕ) → planned_entry p n f l h ≤ 0x20000000
  entry_below h =
      let r = entry_reaches p (code_groups p n f.groups) (code_places p n f l) h in
      let e = code_ends (compartment_of f.groups h) (group_below h) in
      omega (arith, r, e)

  return_below : (x : SiteNeed) → x.func < length p.funcs → return_address p n f l x ≤ 0x20000000
  return_below x lt =
      let size = all_placed p f.groups ok.groups in
      let q = planned_places p n f l x.func in
      let o = site_reaches (func_at p x.func) q.sites (lent (func_at p x.func) q) x.block x.inst in
      let r = function_reaches p (code_groups p n f.groups) (code_places p n f l) x.func (omega (arith, size, lt)) in
      let e = code_ends (compartment_of f.groups x.func) (group_below x.func) in
      omega (arith, o, r, e)

  -- ---- sites

  records_fit : (k : ℕ) (xs : List SiteNeed) → k + target_count xs ≤ 0x100000 → Each (λ (x : SiteNeed). x.func < length p.funcs) xs → AreWords (flat_map site_words (site_records p n f l k xs))
  records_fit k [] h e = tt
  records_fit k (x ∷ xs) h e =
      let c = sum_by-cons (λ (y : SiteNeed). length y.targets) x xs in
      let r = return_below x e.0 in
      (omega (arith, r), (omega (arith, h), (omega (arith, h, c), records_fit (k + length x.targets) xs (omega (arith, h, c)) e.1)))

  targets_few : target_count (crossing_sites n f.groups) ≤ 0x20000
  unfolding table_bytes
  targets_few = let h = tables_most in omega (arith, h)

  pub sites_fit : AreWords (flat_map site_words (planned_tables w n f b).sites)
  unfolding tables_of
  sites_fit =
      let h = targets_few in
      records_fit 0 (crossing_sites n f.groups) (omega (arith, h)) (sites_inside p ok.sets b.closed n f.groups ok.needs)

  -- ---- targets

  target_fits : (h : ℕ) → AreWords (target_words (target_record p n f l h))
  target_fits h =
      let e = entry_below h in
      let g = group_below h in
      let q = (few n f.groups ok.limits).compartments in
      (omega (arith, e), (omega (arith, g, q), tt))

  pub targets_fit : AreWords (flat_map target_words (planned_tables w n f b).targets)
  unfolding tables_of
  targets_fit =
      each_flat IsWord target_words (λ (g : TargetRecord). AreWords (target_words g)) (λ g h. h) (target_records p n f l (crossing_sites n f.groups))
      (each_flat (λ (g : TargetRecord). AreWords (target_words g)) (λ (x : SiteNeed). map (target_record p n f l) x.targets) (λ x. Unit {0})
      (λ x u. each_map (λ (g : TargetRecord). AreWords (target_words g)) (target_record p n f l) (λ h. Unit {0}) x.targets (λ h u. target_fits h) (each_of (λ h. Unit {0}) (λ h. tt) x.targets))
      (crossing_sites n f.groups) (each_of (λ x. Unit {0}) (λ x. tt) (crossing_sites n f.groups)))

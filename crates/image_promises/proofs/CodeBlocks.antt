-- Where the code of compartments lies.
use Rattle.std.proofs.Common.{◌≡◌, ℕ, ◌<◌, ◌≤◌, ◌+◌, ◌-◌, ◌/◌, ◌%◌, ◌^◌, true, length, map, get_or, refl, ap, ◌∙◌, subst, lit<, arith}
use Rattle.std.proofs.Math.Pow.{pow_mono}
use Rattle.std.proofs.lemmas.Bool.{cases_lt}
use Rattle.std.proofs.lemmas.Nat.Bits.{bit_at-zero}
use Rattle.std.proofs.lemmas.List.{get_or-map, length-map, get_or_past}
use Rattle.std.proofs.lemmas.List.FromFn.{get_or-map-range_with_len}
use mathlib.Core.Logic.{⊎_elim}
use Rattle.machine_protection.specs.Regions.{holds}
use Rattle.machine_protection.specs.declared.words.Rights.TheVariants.{Code}
use Rattle.machine_protection.specs.Laws.{RegionsHoldTheirBlocks}
use Rattle.ir_model.specs.Resolve.{resolve}
use Rattle.ir_model.specs.Resolved.{Program}
use Rattle.plan_model.specs.declared.plan.Plan.{Plan}
use Rattle.plan_model.specs.declared.plan.Spot.{Spot}
use Rattle.plan_model.specs.declared.plan.Sizes.{Sizes}
use Rattle.plan_model.specs.Placement.{compartment_spot, no_spot}
use Rattle.plan_model.specs.Blocks.{block_size_for}
use Rattle.code_model.specs.CompartmentCode.{compartment_size}
use Rattle.code_model.specs.Planned.{code_groups}
use Rattle.monitor_model.specs.declared.tables.CompRecord.{CompRecord}
use Rattle.monitor_model.specs.Setting.{has_code}
use Rattle.image_model.specs.LinkedTables.{tables_of}
use Rattle.refine.specs.Builds.{entry_at}
use Rattle.image_promises.specs.Planned.{planned_tables}
use Rattle.plan.specs.PlannedFirmwares.{plan, planned_sizes}
use Rattle.image_promises.proofs.PlannedPremises.{PlannedPremises, planned_of}
use Rattle.image_promises.proofs.Facts.{PlanLaws, laid, code_block_is, code_blocks_count}
use Rattle.image_promises.proofs.FlashParts.{code_count, code_size_is}
use Rattle.image_promises.specs.Parts.{CodeIsPlaced}
use Rattle.image_promises.proofs.Compartments.{in_compartment}
use Rattle.image_promises.proofs.Loans.{record_of}
use Rattle.base_laws.proofs.Multiples.{multiple_of}
use Rattle.base_laws.proofs.Powers.{power_split}
use Rattle.plan_model.proofs.Compartments.{each_compartment as all_placed}

module _ (law : PlanLaws) (held : RegionsHoldTheirBlocks) (planned : PlannedPremises) where
  open planned use {firmware as w, needs as n, final as f, board as b, is_planned as is}

  abbrev p : Program
  p = resolve w

  abbrev s : Sizes
  s = planned_sizes w n f b

  abbrev l : Plan
  l = plan w n f b

  abbrev base_of : ℕ → ℕ
  base_of c = get_or (map (λ (x : Spot). x.base) l.code) c 0

  spots : length l.code ≡ length s.code
  spots = code_count p f s b

  base_is : (c : ℕ) → c < length l.code → base_of c ≡ (compartment_spot l c).base
  base_is c m = get_or-map (λ (x : Spot). x.base) l.code c no_spot 0 m

  aligned : (c : ℕ) → base_of c % 4 ≡ 0
  aligned c = ⊎_elim inner outer (cases_lt c (length l.code))
    where
      inner : c < length l.code → base_of c % 4 ≡ 0
      inner m =
          let count = spots in
          let power = (code_block_is law planned c (omega (arith, m, count))).0 in
          let size : (compartment_spot l c).size ≡ 2 ^ power.0 = code_size_is p f s b c (omega (arith, m, count)) ∙ power.3 in
          let five = power.1 in
          ap (λ x. x % 4) (base_is c m)
          ∙ multiple_of (compartment_spot l c).base 4 (2 ^ (power.0 - 2)) (2 ^ power.0) (power_split 2 power.0 (omega (arith, five)))
          (subst (λ z. (compartment_spot l c).base % z ≡ 0) size ((laid law planned).aligned c m))

      outer : length l.code ≤ c → base_of c % 4 ≡ 0
      outer m = let size = length-map l.code (λ (x : Spot). x.base) in ap (λ x. x % 4) (get_or_past (map (λ (x : Spot). x.base) l.code) c 0 (omega (arith, size, m)))

  inside : (c a : ℕ) → c < f.groups.count → base_of c ≤ a → a < base_of c + compartment_size p (code_groups p n f.groups) c → has_code (planned_tables w n f b) c a ≡ true
  inside c a m from to =
      let count = spots in
      let counted = code_blocks_count law planned in
      let there : c < length s.code = omega (arith, m, counted) in
      let spot = compartment_spot l c in
      let base = base_is c (omega (arith, there, count)) in
      let block_is = code_block_is law planned c there in
      let size : spot.size ≡ block_size_for (get_or s.code c 0) = code_size_is p f s b c there in
      let power = block_is.0 in
      let exact : spot.size ≡ 2 ^ power.0 = size ∙ power.3 in
      let code : get_or s.code c 0 ≡ compartment_size p (code_groups p n f.groups) c =
      get_or-map-range_with_len (compartment_size p (code_groups p n f.groups)) 0 f.groups.count c c 0 m (let e : 0 + c ≡ c = omega arith in e) in
      let room = block_is.1 in
      let low = pow_mono {i = 5} {j = power.0} power.1 in
      let ends = (laid law planned).inside c (omega (arith, there, count)) in
      let from_flash = ends.0 in
      let to_flash = ends.1 in
      let all = is.board.flash_size.most in
      ap (λ (r : CompRecord). holds r.code a) (record_of p n f l b c m)
      ∙ (held 2 spot.base spot.size 0 Code (lit< tt) (power.0, exact) (omega (arith, low, exact)) (omega (arith, from_flash, to_flash, all)) ((laid law planned).aligned c (omega (arith, there, count))) (lit< tt) a).1
      (record { from_base = omega (arith, base, from); below_end = omega (arith, base, to, code, room, size); not_taken_out = λ g. bit_at-zero ((a - spot.base) / (spot.size / 8)) })

pub code_is_placed : PlanLaws → RegionsHoldTheirBlocks → CodeIsPlaced
unfolding tables_of entry_at
code_is_placed law held code w n f b is = record {
  count = all_placed (resolve w) f.groups is.groups;
  each = λ g m. (in_compartment (resolve w) f.groups is.groups g m).below;
  inside = inside law held (planned_of is);
  aligned = aligned law held (planned_of is);
  main = omega arith;
  main_compartment = refl;
}

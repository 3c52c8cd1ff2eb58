-- The tables of a planned image end in front of all code.
use Rattle.std.proofs.Common.{◌≡◌, ℕ, ◌+◌, ◌-◌, ◌<◌, ◌≤◌, inl, ⊎_elim, List, length, refl, arith, pow_pos}
use Rattle.base_words.proofs.Bytes.{length-write_all}
use Rattle.ir_model.specs.Resolved.{Program}
use Rattle.ir_model.specs.Resolve.{resolve}
use Rattle.ir_laws.specs.Typed.{TypedOverNumbers}
use Rattle.plan_model.specs.declared.plan.Sizes.{Sizes}
use Rattle.plan_model.specs.declared.plan.Plan.{Plan}
use Rattle.plan_model.specs.Placement.{compartment_spot}
use Rattle.monitor_model.specs.declared.tables.Tables.{Tables}
use Rattle.monitor_model.specs.Layout.{area_end}
use Rattle.monitor_program.specs.Page.{filled_up}
use Rattle.image_model.specs.LinkedTables.{tables_of}
use Rattle.image_promises.specs.Planned.{planned_tables, planned_image}
use Rattle.plan.specs.PlannedFirmwares.{planned_sizes, plan}
use Rattle.image_promises.proofs.PlannedPremises.{PlannedPremises, planned_of}
use Rattle.image_promises.proofs.FlashBack.{off_all}
use Rattle.image_promises.proofs.FlashParts.{code_count, code_size_is, tables_size_is}
use Rattle.image_promises.proofs.Facts.{laid, tables_block_is, code_blocks_count, code_block_is}
use Rattle.image_promises.proofs.ReadBack.{ReadLaws}
use Rattle.image_promises.proofs.AreaEnd.{end_is, has_compartments}
use Rattle.image_runs.specs.OtherCode.{KeepsTables}
use Rattle.image_runs.specs.ReplacedCode.{with_block, CodeKeepsTables}

module _ (law : ReadLaws) (typing : TypedOverNumbers) (planned : PlannedPremises) where
  open planned use {firmware as w, needs as n, final as f, board as b, is_planned as ok}

  abbrev p : Program
  p = resolve w

  abbrev s : Sizes
  s = planned_sizes w n f b

  abbrev l : Plan
  l = plan w n f b

  abbrev t : Tables
  t = planned_tables w n f b

  base_is : t.base ≡ l.tables.base
  unfolding tables_of
  base_is = refl

  -- in front of the end of the tables' block
  ends : area_end t ≤ l.tables.base + l.tables.size
  ends =
      let e = end_is law.counts p n f l b (has_compartments typing planned) in
      let h = (tables_block_is law.plans planned).1 in
      let z = tables_size_is p f s b in
      let d = base_is in
      omega (arith, e, h, z, d)

  behind : (c : ℕ) → c < f.groups.count → area_end t ≤ (compartment_spot l c).base
  behind c lt =
      let x = laid law.plans planned in
      let e = ends in
      ⊎_elim (λ a. omega (arith, e, a)) (λ a. absurd (empty a)) (x.tables_apart c there)
    where
      m : length s.code ≡ f.groups.count
      m = code_blocks_count law.plans planned

      there : c < length l.code
      there = let h = m in let k = code_count p f s b in omega (arith, lt, h, k)

      empty : (compartment_spot l c).base + (compartment_spot l c).size ≤ l.tables.base → ⊥
      empty a =
          let x = laid law.plans planned in
          let first = x.vectors in
          let from = (x.inside c there).0 in
          let h = m in
          let z = code_size_is p f s b c (omega (arith, lt, h)) in
          let q = (code_block_is law.plans planned c (omega (arith, lt, h))).0 in
          let r = q.3 in
          let k = pow_pos q.0 in
          omega (arith, a, first, from, z, r, k)

  keeps : (c : ℕ) (code : List ℕ) → c < f.groups.count → KeepsTables (planned_image w n f b) t (with_block l b.flash_base c code (planned_image w n f b).flash)
  keeps c code lt =
      let at : ℕ = (compartment_spot l c).base - b.flash_base in
      let bytes : List ℕ = filled_up (compartment_spot l c).size code in
      let flash : List ℕ = (planned_image w n f b).flash in
      let e = behind c lt in
      let d = base_is in
      let first = (laid law.plans planned).vectors in
      record { as_long = length-write_all 1 at bytes flash; same = λ k lt. off_all at bytes flash k (inl (omega (arith, e, d, first, lt))) }

pub code_keeps_tables : ReadLaws → TypedOverNumbers → CodeKeepsTables
code_keeps_tables law typing w n f b ok c code lt = keeps law typing (planned_of ok) c code lt

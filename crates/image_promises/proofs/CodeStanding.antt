-- The code of each compartment stands in flash at its place, as it is.
use Rattle.std.proofs.Common.{◌≡◌, ℕ, ◌+◌, ◌%◌, ◌<◌, ◌≤◌, length, get_or, sym, ◌∙◌, subst, arith}
use Rattle.std.specs.Prelude.{slice_index}
use Rattle.machine_devices.specs.Rules.{ObeysRules}
use Rattle.machine_devices.specs.declared.image.Image.{Image}
use Rattle.machine_model.specs.CodeBytes.{FlashHasBytes}
use Rattle.ir_model.specs.Resolved.{Program}
use Rattle.ir_model.specs.Resolve.{resolve}
use Rattle.plan_model.specs.declared.plan.Plan.{Plan}
use Rattle.plan_model.specs.declared.plan.Sizes.{Sizes}
use Rattle.machine_thumb_asm.specs.Finished.{bytes_from}
use Rattle.code_model.specs.CompartmentCode.{compartment_items, compartment_labels}
use Rattle.code_model.specs.Planned.{planned_code}
use Rattle.code_effects.specs.Items.{ItemsIn, InstructionsInTable, ItemsStand}
use Rattle.monitor_program.specs.TheCode.{monitor_code}
use Rattle.image_promises.specs.Planned.{planned_image}
use Rattle.plan.specs.PlannedFirmwares.{plan, planned_sizes}
use Rattle.image_promises.specs.Laws.{FlashReadsBack}
use Rattle.image_promises.proofs.PlannedPremises.{PlannedPremises, code_groups_of, code_places_of, code_offset_of}
use Rattle.image_promises.proofs.Facts.{length_is, code_blocks_count, flash_first}
use Rattle.image_promises.proofs.FlashParts.{code_ends}
use Rattle.image_promises.proofs.ReadBack.{code_fits}
use Rattle.image_promises.proofs.CompartmentCode.{CodeLaws, code_in_table, code_bytes}
use Rattle.image_promises.proofs.EntryPlaces.{base_is, from_base}

module _ (law : CodeLaws) (has : FlashReadsBack) (planned : PlannedPremises) where
  open planned use {firmware as w, needs as n, final as f, board as b, is_planned as ok}

  abbrev p : Program
  p = resolve w

  abbrev s : Sizes
  s = planned_sizes w n f b

  abbrev l : Plan
  l = plan w n f b

  abbrev i : Image
  i = planned_image w n f b

  pub code_exact : (c k : ℕ) → c < f.groups.count → k < length (planned_code p n f l c) → slice_index i.flash (code_offset_of planned c + k) ≡ slice_index (planned_code p n f l c) k
  code_exact c k there m =
      let small = code_bytes law planned c there k in
      let whole : slice_index (planned_code p n f l c) k % 256 ≡ slice_index (planned_code p n f l c) k = omega (arith, small) in
      has.code w n f b ok c k there m ∙ whole

  at_base : (c : ℕ) → c < f.groups.count → i.flash_base + code_offset_of planned c ≡ get_or (code_places_of planned).bases c 0
  at_base c there =
      let e = base_is law.read law.placed monitor_code planned c there in
      let from = from_base law.read law.placed monitor_code planned c there in
      let first = flash_first planned in
      omega (arith, e, from, first)

  holds_code : (c : ℕ) → c < f.groups.count → FlashHasBytes i (code_offset_of planned c) (planned_code p n f l c)
  holds_code c there = record { fits = room; holds = λ k m. code_exact c k there m }
    where
      room : code_offset_of planned c + length (planned_code p n f l c) ≤ length i.flash
      room =
          let m = code_blocks_count law.read.plans planned in
          let end = code_ends p f s b c (omega (arith, there, m)) in
          let from = from_base law.read law.placed monitor_code planned c there in
          let fit = code_fits law.read planned c there in
          let z = length_is law.read.plans planned in
          omega (arith, end, from, fit, z)

  pub code_stands : ItemsStand → ObeysRules i → (c : ℕ) → c < f.groups.count →
      ItemsIn i (compartment_labels p (code_groups_of planned) (code_places_of planned) c) (get_or (code_places_of planned).bases c 0) (compartment_items p (code_groups_of planned) (code_places_of planned) c)
  code_stands items rules c there =
      let e = at_base c there in
      subst (λ a. ItemsIn i (compartment_labels p (code_groups_of planned) (code_places_of planned) c) a (compartment_items p (code_groups_of planned) (code_places_of planned) c)) e
      (items.from_bytes i (compartment_labels p (code_groups_of planned) (code_places_of planned) c) (code_offset_of planned c) (compartment_items p (code_groups_of planned) (code_places_of planned) c) rules
      (subst (λ a. InstructionsInTable (compartment_labels p (code_groups_of planned) (code_places_of planned) c) a (compartment_items p (code_groups_of planned) (code_places_of planned) c)) (sym e) (code_in_table law planned c there))
      (subst (λ a. FlashHasBytes i (code_offset_of planned c) (bytes_from (compartment_labels p (code_groups_of planned) (code_places_of planned) c) a (compartment_items p (code_groups_of planned) (code_places_of planned) c))) (sym e) (holds_code c there)))

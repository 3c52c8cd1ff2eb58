-- `main` of a planned image is read back from its page.
use Rattle.std.proofs.Common.{◌≡◌, ◌+◌, ◌^◌, ◌<◌, length, refl, arith}
use Rattle.machine_thumb.specs.Laws.{IsRoundTrip}
use Rattle.ir_model.specs.Resolve.{resolve}
use Rattle.ir_laws.specs.Typed.{TypedOverNumbers}
use Rattle.plan_model.specs.Groups.{compartment_of}
use Rattle.code_model.specs.Planned.{planned_entry}
use Rattle.monitor_program.specs.TheCode.{monitor_code}
use Rattle.image_model.specs.LinkedTables.{tables_of}
use Rattle.image_promises.specs.Planned.{planned_tables, planned_image}
use Rattle.plan.specs.PlannedFirmwares.{plan}
use Rattle.plan_model.proofs.KeptLimits.{few}
use Rattle.image_promises.proofs.PlannedPremises.{PlannedPremises, planned_of}
use Rattle.image_promises.proofs.ReadBack.{ReadLaws}
use Rattle.image_promises.specs.Parts.{CodeIsPlaced}
use Rattle.image_promises.specs.CodeInFlash.{PageIsExact, MainIsMoved}
use Rattle.image_promises.proofs.EntryPlaces.{entry_in, is}
use Rattle.image_promises.proofs.MainWords.{entry_back, compartment_back}

module _ (law : ReadLaws) (placed : CodeIsPlaced) (typing : TypedOverNumbers) (planned : PlannedPremises) where
  open planned use {firmware as w, needs as n, final as f, board as b, is_planned as ok}

  there : (resolve w).main < length (resolve w).funcs
  there = (typing w ok.typed ok.within).main

  main_is : (planned_tables w n f b).main ≡ planned_entry (resolve w) n f (plan w n f b) (resolve w).main + 1
  unfolding tables_of
  main_is = refl

  compartment_is : (planned_tables w n f b).main_comp ≡ compartment_of f.groups (resolve w).main
  unfolding tables_of
  compartment_is = refl

  pub main_below : (planned_tables w n f b).main < 2 ^ 32
  main_below =
      let e = main_is in
      let to = (entry_in law placed monitor_code planned (resolve w).main there).to in
      let top = ok.board.flash_highest in
      omega (arith, e, to, top)

  pub compartment_below : (planned_tables w n f b).main_comp < 2 ^ 32
  compartment_below =
      let e = compartment_is in
      let g : compartment_of f.groups (resolve w).main < f.groups.count = (is law placed monitor_code planned).each (resolve w).main there in
      let most = (few n f.groups ok.limits).compartments in
      omega (arith, e, g, most)

pub main_is_moved : ReadLaws → CodeIsPlaced → TypedOverNumbers → IsRoundTrip → PageIsExact → MainIsMoved
main_is_moved law placed typing round exact w n f b ok =
    let main = main_below law placed typing (planned_of ok) in
    let compartment = compartment_below law placed typing (planned_of ok) in
    record {
      entry = entry_back round (planned_tables w n f b) (planned_image w n f b).flash (exact w n f b ok) main compartment;
      compartment = compartment_back round (planned_tables w n f b) (planned_image w n f b).flash (exact w n f b ok) main compartment;
    }

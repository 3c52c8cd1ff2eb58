-- The leave stub stands at an even address below 2^32.
use Rattle.std.proofs.Common.{◌≡◌, ◌%◌, arith}
use Rattle.monitor_model.specs.declared.tables.Tables.{Tables}
use Rattle.monitor_program.specs.CodeSize.{CodeFits, StubIsThere}
use Rattle.monitor_program.specs.Constants.{Constants, constants_with}
use Rattle.monitor_program.specs.MemFault.{memfault}
use Rattle.monitor_program.specs.Page.{stub_offset}
use Rattle.monitor_program.specs.Reset.{reset}
use Rattle.monitor_program.specs.Svc.{svc}
use Rattle.image_model.specs.LinkedTables.{tables_of}
use Rattle.image_promises.specs.Planned.{planned_tables}
use Rattle.image_promises.proofs.PlannedPremises.{PlannedPremises, planned_of}
use Rattle.image_promises.proofs.Facts.{PlanLaws, laid}
use Rattle.image_promises.specs.CodeInFlash.{StubIsPlaced}
use Rattle.monitor_steps.proofs.CodeParts.{length_even}

offset_even : (c : Constants) → stub_offset c % 2 ≡ 0
offset_even c =
    let a = length_even (reset c) in
    let b = length_even (svc c) in
    let d = length_even (memfault c) in
    omega (arith, a, b, d)

module _ (law : PlanLaws) (planned : PlannedPremises) where
  open planned use {firmware as w, needs as n, final as f, board as b}

  tables_first : (planned_tables w n f b).base ≡ b.flash_base
  unfolding tables_of
  tables_first = (laid law planned).vectors

pub stub_is_placed : PlanLaws → CodeFits → StubIsThere → StubIsPlaced
stub_is_placed law fits there w n f b ok =
    let t : Tables = planned_tables w n f b in
    let first = tables_first law (planned_of ok) in
    let aligned = ok.board.flash_aligned in
    let highest = ok.board.flash_highest in
    let even = offset_even (constants_with 0 t) in
    let room = fits t in
    let same = there t in
    record { even = omega (arith, first, aligned, even); low = omega (arith, first, highest, room, same) }

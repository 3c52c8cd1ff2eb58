-- What a planned image has of its board; the eight eighths of its stack are the board's stack.
use Rattle.std.proofs.Common.{◌≡◌, refl, ◌*◌, ◌/◌, ap, sym, ◌∙◌, arith}
use Rattle.monitor_model.specs.Records.{eighth}
use Rattle.image_model.specs.LinkedImage.{linked}
use Rattle.image_model.specs.LinkedTables.{tables_of}
use Rattle.image_promises.specs.Planned.{planned_tables}
use Rattle.image_promises.proofs.PlannedPremises.{PlannedPremises, planned_of}
use Rattle.image_promises.proofs.Facts.{PlanLaws, stack_size_is}
use Rattle.base_laws.proofs.Powers.{eight_eighths}
use Rattle.image_promises.specs.Whole.{PlannedImagesAreForBoards}

module _ (law : PlanLaws) (planned : PlannedPremises) where
  open planned use {firmware as w, needs as n, final as f, board as b, is_planned as is}

  pub stack_is : 8 * eighth (planned_tables w n f b) ≡ b.stack
  unfolding tables_of
  stack_is =
      let size = stack_size_is law planned in
      let power = is.board.stack in
      let least = power.1 in
      ap (λ z. 8 * (z / 8)) (size ∙ power.3) ∙ eight_eighths power.0 (omega (arith, least)) ∙ sym power.3

pub are_for_boards : PlanLaws → PlannedImagesAreForBoards
unfolding linked
are_for_boards law w n f b is =
    record { windows = refl; flash_base = refl; ram_base = refl; ram_size = refl; stack_size = stack_size_is law (planned_of is); regions = refl; closed = refl }

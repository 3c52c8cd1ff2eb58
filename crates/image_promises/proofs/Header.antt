-- The check of the header passes.
use Rattle.std.proofs.Common.{◌≡◌, None, arith}
use Rattle.monitor_model.specs.Checks.{header_fails}
use Rattle.image_model.specs.LinkedImage.{linked}
use Rattle.image_promises.specs.Planned.{planned_image}
use Rattle.plan.specs.PlannedFirmwares.{plan}
use Rattle.image_promises.proofs.PlannedPremises.{PlannedPremises}
use Rattle.image_promises.proofs.Passing.{and_yes, ne_yes, le_yes, apart_yes, must_yes}
use Rattle.image_promises.proofs.Facts.{PlanLaws, length_is, flash_least, stack_least, stack_size_is, monitor_in, stack_apart}

module _ (law : PlanLaws) (planned : PlannedPremises) where
  open planned use {firmware as w, needs as n, final as f, board as b, is_planned as ok}

  pub header_passes : header_fails (planned_image w n f b) ≡ None
  unfolding linked
  header_passes =
      let size = length_is law planned in
      let least = flash_least law planned in
      let stack = stack_least law planned in
      let is = stack_size_is law planned in
      let from = (monitor_in law planned).0.0 in
      let low = ok.board.ram_lowest in
      must_yes _ b.flash_base
      (and_yes (ne_yes {a = (plan w n f b).monitor.base} {b = 0} (λ e. absurd (omega (arith, e, from, low))))
      (and_yes (ne_yes {a = (plan w n f b).stack.size} {b = 0} (λ e. absurd (omega (arith, e, is, stack))))
      (and_yes (apart_yes _ _ _ _ (stack_apart law planned)) (le_yes (omega (arith, size, least))))))

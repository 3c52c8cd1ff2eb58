-- The image of a planned firmware obeys the rules of images.
use Rattle.std.proofs.Common.{◌≡◌, ◌%◌, ◌≤◌, inr, length, ap, sym, ◌∙◌, subst, arith}
use Rattle.std.proofs.lemmas.List.{length-map}
use Rattle.base_ranges.specs.Ranges.{IsPowerBetween}
use Rattle.machine_devices.specs.Rules.{IsStack, IsMonitor, ObeysRules}
use Rattle.ir_model.proofs.Limits.{few_periphs}
use Rattle.ir_laws.specs.Limits.{WindowsLieApart}
use Rattle.ir_program.specs.Windows.{window_of, windows_of}
use Rattle.plan_model.specs.declared.plan.Plan.{Plan}
use Rattle.image_model.specs.LinkedImage.{linked}
use Rattle.image_promises.specs.Planned.{planned_image}
use Rattle.plan.specs.PlannedFirmwares.{plan, planned_sizes}
use Rattle.image_promises.proofs.PlannedPremises.{PlannedPremises, planned_of}
use Rattle.image_promises.proofs.Facts.{PlanLaws, length_is, needed_most, flash_least, stack_in, stack_size_is, monitor_in, monitor_size_is}
use Rattle.image_promises.specs.Parts.{MemoryIsLaid}
use Rattle.image_promises.specs.Regions.{ImagesObeyRules, MemoryObeysRules}
use Rattle.image_promises.proofs.FlashWords.{flash_fours}
use Rattle.image_promises.proofs.WindowRules.{are_windows}

module _ (law : PlanLaws) (planned : PlannedPremises) where
  open planned use {firmware as w, needs as n, final as f, board as b, is_planned as is}

  abbrev l : Plan
  l = plan w n f b

  has_monitor : IsMonitor (planned_image w n f b)
  unfolding linked
  has_monitor =
      let size = monitor_size_is law planned in
      let m = monitor_in law planned in
      let low = m.0.0 in
      let high = m.0.1 in
      inr (subst (λ z. l.monitor.base % z ≡ 0) size m.1, (low, omega (arith, high, size)))

  has_stack : IsStack (planned_image w n f b)
  unfolding linked
  has_stack =
      let s = stack_in law planned in
      record { size = subst (IsPowerBetween 9 16) (sym (stack_size_is law planned)) is.board.stack; aligned = s.1; place = s.0 }

  flash_words : length (planned_image w n f b).flash % 4 ≡ 0
  flash_words = ap (λ x. x % 4) (length_is law planned) ∙ flash_fours (planned_sizes w n f b)

  few_windows : length (windows_of w) ≤ 64
  few_windows = let few = few_periphs w is.within in let size = length-map w.periphs window_of in omega (arith, few, size)

  pub obeys : WindowsLieApart → ObeysRules (planned_image w n f b)
  unfolding linked
  obeys apart =
      let size = length_is law planned in
      let least = flash_least law planned in
      let most = needed_most law planned in
      record {
        flash_aligned = is.board.flash_aligned;
        flash_highest = is.board.flash_highest;
        flash_least = omega (arith, size, least);
        flash_most = omega (arith, size, most);
        flash_words = flash_words;
        ram_aligned = is.board.ram_aligned;
        ram_lowest = is.board.ram_lowest;
        ram_highest = is.board.ram_highest;
        ram_least = is.board.ram_size.least;
        ram_most = is.board.ram_size.most;
        ram_blocks = is.board.ram_size.blocks;
        monitor = has_monitor;
        regions = is.board.regions;
        stack = inr has_stack;
        count = few_windows;
        windows = are_windows apart w is.typed is.within;
      }

pub images_obey_rules : PlanLaws → WindowsLieApart → ImagesObeyRules
images_obey_rules law apart w n f b is = obeys law (planned_of is) apart

pub memory_obeys_rules : ImagesObeyRules → MemoryIsLaid → MemoryObeysRules
memory_obeys_rules images laid code w n f b is =
    let m = laid code w n f b is in
    record {
      image = images w n f b is;
      stack_aligned = m.stack_aligned;
      eighth_aligned = m.eighth_aligned;
      some = m.some;
      fits = m.fits;
      block_fits = m.block_fits;
      apart = m.apart;
    }

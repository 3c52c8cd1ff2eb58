-- The image in which a compartment has other code, and why there is none.
use Rattle.std.proofs.Common.{◌≡◌, ℕ, ◌-◌, ◌<◌, ◌≤◌, List, length, get_or, refl, sym, ap, ◌∙◌, subst, arith}
use Rattle.std.proofs.lemmas.List.FromFn.{length-map-range_with_len}
use Rattle.base_words.specs.Bytes.{write_all}
use Rattle.machine_devices.specs.declared.image.Image.{Image}
use Rattle.machine_devices.specs.Rules.{ObeysRules}
use Rattle.ir_model.specs.Plain.{PlainFirmware}
use Rattle.ir_model.specs.Resolve.{resolve}
use Rattle.plan_model.specs.declared.groups.Groups.{Groups}
use Rattle.plan_model.specs.declared.needs.Needs.{Needs}
use Rattle.plan_model.specs.declared.plan.Board.{Board}
use Rattle.plan_model.specs.declared.plan.Plan.{Plan}
use Rattle.plan_model.specs.declared.plan.Spot.{Spot}
use Rattle.plan_model.specs.Placement.{no_spot, compartment_spot}
use Rattle.monitor_program.specs.Page.{filled_up}
use Rattle.monitor_model.specs.Confined.{Confined}
use Rattle.image_model.specs.LinkedImage.{linked}
use Rattle.image_promises.specs.Planned.{planned_image, planned_tables}
use Rattle.plan.specs.PlannedFirmwares.{IsPlanned, planned_sizes, plan}
use Rattle.image_promises.proofs.FlashParts.{code_count}
use Rattle.image_promises.specs.Regions.{ImagesObeyRules}
use Rattle.plan.specs.declared.planner.PlannedFirmware.{PlannedFirmware}
use Rattle.plan.specs.Planned.{IsPlannedFor}
use Rattle.image_promises.specs.Whole.{IsForBoard, PlannedImagesAreForBoards}
use Rattle.machine_model.specs.Reset.{EachRun}
use Rattle.monitor_runs.specs.Runs.{TellsWhoRuns}
use Rattle.image_runs.specs.Isolated.{IsIsolated}
use Rattle.image_runs.specs.OtherCode.{with_flash, KeepsTables}
use Rattle.image_runs.specs.Laws.{RulesStay}
use Rattle.image_runs.specs.ReplacedCode.{with_block, CodeKeepsTables, PlannedImagesKeepPromises, PlannedImagesStayIsolated}
use Rattle.image_runs.proofs.Kept.{board_stays}
use Rattle.aces_compiler.specs.WithCode.{HasPlan, IsImageWithCode, IsTooLong, IsBeyond}
use Rattle.aces_compiler.proofs.Parts.{plan_is}

module _ (w : PlainFirmware) (n : Needs) (b : Board) (g : Groups) (x : PlannedFirmware) (k : IsPlannedFor (resolve w) n g b x) (is : IsPlanned w n x.graph b) where
  abbrev has_plan : HasPlan w n b g
  has_plan = record { graph = x.graph; groups = k.groups; planned = is }

  planned : x.plan ≡ plan w n x.graph b
  planned = plan_is w n b g x k

  -- a block for the code of each compartment
  count : length x.plan.code ≡ g.count
  count =
      ap (λ (l : Plan). length l.code) planned
      ∙ code_count (resolve w) x.graph (planned_sizes w n x.graph b) b
      ∙ length-map-range_with_len _ 0 x.graph.groups.count
      ∙ ap (λ (y : Groups). y.count) k.groups

  spot_is : (c : ℕ) (y : Spot) (xs : List Spot) → xs ≡ x.plan.code → ((d : Spot) → y ≡ get_or xs c d) → y ≡ compartment_spot (plan w n x.graph b) c
  spot_is c y xs e f = f no_spot ∙ ap (λ ys. get_or ys c no_spot) e ∙ ap (λ (l : Plan). get_or l.code c no_spot) planned

  pub beyond : (c : ℕ) (xs : List Spot) → xs ≡ x.plan.code → length xs ≤ c → IsBeyond w n b g c
  beyond c xs e le = record { has_plan = has_plan; beyond = let l = ap length e in let m = count in omega (arith, l, m, le) }

  module _ (c : ℕ) (code : List ℕ) (y : Spot) (xs : List Spot) (e : xs ≡ x.plan.code) (lt : c < length xs) (f : (d : Spot) → y ≡ get_or xs c d) where
    there : c < g.count
    there = let l = ap length e in let m = count in omega (arith, l, m, lt)

    size_is : y.size ≡ (compartment_spot (plan w n x.graph b) c).size
    size_is = ap (λ (z : Spot). z.size) (spot_is c y xs e f)

    pub too_long : y.size < length code → IsTooLong w n b g c code
    too_long more = record { has_plan = has_plan; there = there; longer = let s = size_is in omega (arith, s, more) }

    abbrev first : Image
    first = planned_image w n x.graph b

    abbrev flash : List ℕ
    flash = with_block (plan w n x.graph b) b.flash_base c code first.flash

    base_is : first.flash_base ≡ b.flash_base
    unfolding linked
    base_is = refl

    pub with_code : length code ≤ y.size → CodeKeepsTables → RulesStay → PlannedImagesKeepPromises → PlannedImagesStayIsolated → ImagesObeyRules → PlannedImagesAreForBoards → (i j : Image) → i ≡ first
        → j ≡ with_flash i (write_all 1 (y.base - i.flash_base) (filled_up y.size code) i.flash) → IsImageWithCode w n b g c code j
    with_code le kept rules keep isolated images boards i j e1 e2 =
        record {
          has_plan = has_plan;
          there = there;
          fits = let s = size_is in omega (arith, s, le);
          image = same;
          rules = subst ObeysRules (sym same) (rules first flash (images w n x.graph b is) keeps.as_long);
          board = subst (IsForBoard w b) (sym same) (board_stays w b first flash (boards w n x.graph b is));
          confined = subst (λ (z : Image). Confined z (planned_tables w n x.graph b)) (sym same) (keep.confined w n x.graph b is flash keeps);
          moves = subst (λ (z : Image). TellsWhoRuns z (planned_tables w n x.graph b)) (sym same) (keep.moves w n x.graph b is flash keeps);
          isolated = subst (λ (z : Image). EachRun z (IsIsolated w n x.graph b z (planned_tables w n x.graph b))) (sym same) (isolated w n x.graph b is flash keeps);
        }
      where
        keeps : KeepsTables first (planned_tables w n x.graph b) flash
        keeps = kept w n x.graph b is c code (subst (λ (y : Groups). c < y.count) (sym k.groups) there)

        same : j ≡ with_flash first flash
        same =
            let of_image : Image → Image = λ z. with_flash z (write_all 1 (y.base - z.flash_base) (filled_up y.size code) z.flash) in
            let of_spot : Spot → Image = λ z. with_flash first (write_all 1 (z.base - first.flash_base) (filled_up z.size code) first.flash) in
            let s : Spot = compartment_spot (plan w n x.graph b) c in
            let of_base : ℕ → Image = λ a. with_flash first (write_all 1 (s.base - a) (filled_up s.size code) first.flash) in
            e2 ∙ ap of_image e1 ∙ ap of_spot (spot_is c y xs e f) ∙ ap of_base base_is

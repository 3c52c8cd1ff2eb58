-- The page stands in flash as it is, so the check of the code does not fail.
use Rattle.std.proofs.Common.{◌≡◌, ℕ, suc, ◌+◌, ◌%◌, ◌<◌, ◌≤◌, List, [], ◌∷◌, length, get_or, None, refl, sym, ◌∙◌, arith}
use Rattle.std.specs.Prelude.{slice_index}
use Rattle.machine_thumb.specs.Laws.{ShowsItsLength}
use Rattle.monitor_model.specs.declared.tables.Tables.{Tables}
use Rattle.monitor_model.specs.Checks.{difference}
use Rattle.monitor_program.specs.CodeSize.{CodeFits, PagesAreFull}
use Rattle.monitor_program.specs.Page.{page}
use Rattle.image_promises.specs.Planned.{planned_tables, planned_image}
use Rattle.image_promises.specs.Laws.{FlashReadsBack}
use Rattle.image_promises.proofs.PlannedPremises.{planned_of}
use Rattle.image_promises.proofs.Facts.{PlanLaws, length_is, flash_least}
use Rattle.image_promises.proofs.Passing.{eq_yes, must_yes, then_yes}
use Rattle.image_promises.specs.CodeInFlash.{PageIsExact, CodePasses}
use Rattle.image_promises.proofs.PageBytes.{page_bytes}

-- a list that the other begins with
no_difference : (wanted found : List ℕ) (at : ℕ) → length wanted ≤ length found → ((k : ℕ) → k < length wanted → get_or found k 0 ≡ get_or wanted k 0) → difference wanted found at ≡ None
no_difference [] found at l h = refl
no_difference (x ∷ xs) [] at l h = absurd (omega (arith, l))
no_difference (x ∷ xs) (y ∷ ys) at l h =
    then_yes (must_yes _ at (eq_yes (sym (h 0 (omega arith))))) (no_difference xs ys (at + 1) (omega (arith, l)) (λ k u. h (suc k) (omega (arith, u))))

pub page_is_exact : FlashReadsBack → ShowsItsLength → CodeFits → PageIsExact
page_is_exact has law fits w n f b ok k l =
    let small = page_bytes fits (planned_tables w n f b) law k in
    let whole : slice_index (page (planned_tables w n f b)) k % 256 ≡ slice_index (page (planned_tables w n f b)) k = omega (arith, small) in
    has.page w n f b ok k l ∙ whole

pub code_passes : PlanLaws → FlashReadsBack → ShowsItsLength → CodeFits → PagesAreFull → CodePasses
code_passes plans has law fits full w n f b ok =
    let t : Tables = planned_tables w n f b in
    let m = length_is plans (planned_of ok) in
    let z = flash_least plans (planned_of ok) in
    let e = full t in
    no_difference (page t) (planned_image w n f b).flash t.base (omega (arith, m, z, e)) (λ k l. page_is_exact has law fits w n f b ok k (omega (arith, l, e)))

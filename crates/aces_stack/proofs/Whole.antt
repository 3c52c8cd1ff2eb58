-- The premise on the stack falls away where the bound fits.
use Rattle.std.proofs.Common.{◌≡◌, refl, subst}
use Rattle.plan_model.specs.declared.policy.Policy.{Policy}
use Rattle.ir_model.specs.Plain.{PlainFirmware}
use Rattle.ir_model.specs.Resolve.{resolve}
use Rattle.need_laws.specs.Checked.{AreSets}
use Rattle.plan_model.specs.declared.needs.Needs.{Needs}
use Rattle.plan_model.specs.declared.plan.Board.{Board}
use Rattle.plan_model.specs.CompileLimits.{KeepsLimits}
use Rattle.plan_compartments.specs.Divisions.{division}
use Rattle.plan_compartments.specs.Laws.{NeedsAreOne}
use Rattle.monitor_model.specs.Layout.{initial_word_count}
use Rattle.image_promises.specs.Planned.{planned_tables}
use Rattle.refine_stack.specs.declared.answer.StackAnswer.{StackAnswer}
use Rattle.refine_stack.specs.declared.answer.StackAnswer.TheVariants.{Cycle, Bound}
use Rattle.refine_stack.specs.Answers.{IsAnswer}
use Rattle.refine_stack.specs.Bounds.{FitsStack}
use Rattle.aces_stack.specs.StackLaws.{IsBounded, BoundedRunsStayWithin, BoundedFirmwaresAreRefined}
use Rattle.aces_stack.specs.Bounded.{Fits}
use Rattle.aces_stack.specs.ImageLaws.{BoundedImagesRefineWhole, BoundsAreKept}

pub bounded_images_refine_whole : BoundedFirmwaresAreRefined → BoundedImagesRefineWhole
bounded_images_refine_whole law w n b g i is fits =
    law w n g b.stack (initial_word_count (planned_tables w n is.graph b)) i
    (record {
      typed = is.planned.typed;
      within = is.planned.within;
      sets = is.planned.sets;
      closed_sets = is.planned.are_sets.closed;
      closed = b.closed;
      needs = is.planned.needs;
      limits = subst (KeepsLimits n) is.groups is.planned.limits;
      size = is.planned.board.stack;
      fits = fits;
    }) is.refines

fits_stack : (policy : Policy) (w : PlainFirmware) (b : Board) (n : Needs) (a : StackAnswer) → IsAnswer (resolve w) n (division policy w n) b.stack a → Fits b.stack a → FitsStack (resolve w) n (division policy w n) b.stack
fits_stack policy w b n (Cycle c) h f = absurd f
fits_stack policy w b n (Bound needed path) h f = record { needed = needed; path = path; bound = h; fits = f }

pub bounds_are_kept : NeedsAreOne → BoundedRunsStayWithin → BoundedFirmwaresAreRefined → BoundsAreKept
bounds_are_kept one runs law policy w b a n typed within serve size are limits answer = record {
  needs = n;
  are_needs = are;
  limits = limits;
  answer = answer;
  within = λ f. runs w n (division policy w n) b.stack (bounded f);
  whole = λ f i by.
      let same : n ≡ by.needs = one w b.closed n by.needs are by.are_needs in
      bounded_images_refine_whole law w by.needs b (division policy w by.needs) i by.image
      (subst (λ (m : Needs). FitsStack (resolve w) m (division policy w m) b.stack) same (fits_stack policy w b n a answer f));
}
  where
    sets : AreSets (resolve w) are.sets
    sets = serve (resolve w) are.sets (record { firmware = w; typed = typed; within = within; is = refl }) are.least

    bounded : Fits b.stack a → IsBounded w n (division policy w n) b.stack
    bounded f = record {
      typed = typed;
      within = within;
      sets = are.sets;
      closed_sets = sets.closed;
      closed = b.closed;
      needs = are.needs;
      limits = limits;
      size = size;
      fits = fits_stack policy w b n a answer f;
    }

-- States whose frames take no more than the stack has are within the stack's limit.
use Rattle.std.proofs.Common.{◌≡◌, ℕ, ◌+◌, ◌-◌, ◌*◌, ◌/◌, ◌≤◌, Bool, List, [], ◌∷◌, length, Option, Some, None, refl, sym, ap, subst, ◌∙◌, arith}
use Rattle.ir_model.specs.Types.{PlainType}
use Rattle.ir_model.specs.Layout.{rounded_up}
use Rattle.ir_model.specs.Resolved.{Program}
use Rattle.ir_model.specs.Resolve.{resolve}
use Rattle.ir_model.specs.State.{Frame, SourceState, Running, Ended}
use Rattle.ir_model.specs.Runs.{source_after}
use Rattle.ir_laws.specs.Sets.{ObjectSets}
use Rattle.ir_laws.specs.States.{FramesFit, StateFits}
use Rattle.ir_laws.specs.Typed.{sizes_of}
use Rattle.ir_laws.specs.Moves.{Where, wheres}
use Rattle.ir_laws.specs.Runs.{ValuesStayInSets}
use Rattle.plan_model.specs.declared.needs.Needs.{Needs}
use Rattle.plan_model.specs.declared.groups.Groups.{Groups}
use Rattle.plan_model.specs.Needs.{AreNeeds}
use Rattle.plan_model.specs.Lending.{lent, lend_count}
use Rattle.refine_model.specs.StackLimit.{limit_by, site_of, position, lent_locals, HaveRoom, IsWithinStack}
use Rattle.refine_stack.specs.Paths.{IsPath}
use Rattle.refine_stack.specs.Bounds.{FitsStack}
use Rattle.aces_stack.specs.StackLaws.{BoundedRunsStayWithin, BoundedFirmwaresAreRefined}
use Rattle.ir_model.proofs.Counting.{rounded_at_least}
use Rattle.aces_stack.proofs.Eighths.{HasEighths, has_eighths, both_sides}
use Rattle.aces_stack.proofs.Loans.{Differ, counted, counted_at_most}
use Rattle.aces_stack.proofs.Frames.{taken_by, taken, funcs, frames_are_path, frames_differ}
use Rattle.plan_model.proofs.KeptLimits.{few}

module _ (p : Program) (z : PlainType → ℕ) (S : ObjectSets) (closed : Bool) (n : Needs) (g : Groups) (stack : ℕ) (needs : AreNeeds p S closed n) (eighths : HasEighths stack) where
  abbrev by_ : Option ℕ → ℕ → ℕ
  by_ x t = taken_by p z S closed n g stack needs x t

  abbrev takes : List Where → ℕ
  takes ws = taken p z S closed n g stack needs ws

  -- what is left and what is taken are the stack
  limit_is : (x : Option ℕ) (q t : ℕ) → q + t ≡ stack → by_ x t ≤ stack → limit_by p n g stack x q + by_ x t ≡ stack
  limit_is None q t e l = e
  limit_is (Some s) q t e l =
      let d : stack / 8 ≡ eighths.eighth = let w = eighths.whole in omega arith in
      let w = eighths.whole in
      let l2 : rounded_up (t + 32) eighths.eighth ≤ stack = subst (λ (y : ℕ). rounded_up (t + 32) y ≤ stack) d l in
      let more = rounded_at_least (t + 32) eighths.eighth eighths.some_ in
      let b : (q - 32) / eighths.eighth * eighths.eighth + rounded_up (t + 32) eighths.eighth ≡ 8 * eighths.eighth =
      both_sides eighths.eighth (q - 32) (t + 32) eighths.some_ (omega arith) (omega arith) in
      subst (λ (y : ℕ). (q - 32) / y * y + rounded_up (t + 32) y ≡ stack) (sym d) (b ∙ sym w)

  -- each of these frames, with those below it, leaves room for an exception
  abbrev Low : List Where → Type 0
  Low [] = Unit {0}
  Low (w ∷ ws) = (takes (w ∷ ws) + 32 ≤ stack) × Low ws

  position_is : (ws : List Where) → Low ws → position p n g stack ws + takes ws ≡ stack
  position_is [] low = omega arith
  position_is (w ∷ ws) low =
      let a = low.0 in
      let l = limit_is (site_of p n g stack ws) (position p n g stack ws) (takes ws) (position_is ws low.1) (omega arith) in
      omega arith

  counted_is : (ws : List Where) → lent_locals p n g stack ws ≡ counted (lent n g) ws
  counted_is [] = refl
  counted_is (w ∷ ws) = ap (λ (y : ℕ). lend_count n g w.func + y) (counted_is ws)

  have_room : length (lent n g) ≤ 32 → (ws : List Where) → Low ws → Differ ws → HaveRoom p n g stack ws
  have_room few [] low d = tt
  have_room few (w ∷ ws) low d =
      let a = low.0 in
      let l = limit_is (site_of p n g stack ws) (position p n g stack ws) (takes ws) (position_is ws low.1) (omega arith) in
      let c = counted_is (w ∷ ws) in
      let m = counted_at_most (lent n g) (w ∷ ws) d in
      (record { space = omega arith; loans = omega arith }, have_room few ws low.1 d.1)

  low_frames : ((fs : List ℕ) (t : ℕ) → IsPath p n g stack fs t → t + 32 ≤ stack) → (fs : List Frame) → FramesFit p z S fs → Low (wheres fs)
  low_frames most [] fit = tt
  low_frames most (fr ∷ rest) fit =
      (most (funcs p z S closed n g stack needs (fr ∷ rest)) (takes (wheres (fr ∷ rest))) (frames_are_path p z S closed n g stack needs fr rest fit), low_frames most rest fit.2)

  pub state_within : length (lent n g) ≤ 32 → FitsStack p n g stack → (s : SourceState) → StateFits p z S s → IsWithinStack p n g stack s
  state_within few fits (Running fs m) fit =
      have_room few (wheres fs)
      (low_frames (λ xs t h. let a = fits.bound.most xs t h in let b = fits.fits in omega arith) fs fit.0)
      (frames_differ p z S closed n g stack needs fits.bound.no_cycle fs fit.0)
  state_within few fits (Ended e) fit = tt

pub bounded_runs_stay_within : ValuesStayInSets → BoundedRunsStayWithin
bounded_runs_stay_within values w n g stack is compartments queues steps =
    state_within (resolve w) (sizes_of w) is.sets is.closed n g stack is.needs (has_eighths stack is.size) (few n g is.limits).lent is.fits
    (source_after (resolve w) compartments queues steps)
    ((values w is.sets is.typed is.within is.closed_sets).states compartments queues steps)

pub bounded_firmwares_are_refined : BoundedRunsStayWithin → BoundedFirmwaresAreRefined
bounded_firmwares_are_refined within w n g stack words i is refines = record {
  matched = λ queues first k reset good. refines.matched queues first k reset
      (record { no_fault = good; within = λ j l. within w n g stack is g.of queues j });
}

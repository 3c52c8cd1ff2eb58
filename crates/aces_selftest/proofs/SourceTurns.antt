-- Runs of a source, by what its steps answer.
use Rattle.std.proofs.Common.{◌≡◌, ℕ, suc, ◌+◌, ◌<◌, List, [], ◌∷◌, ◌++◌, Some, None, refl, ap, sym, ◌∙◌, subst, arith}
use Rattle.base_events.specs.declared.event.Event.{Event}
use Rattle.ir_model.specs.Resolved.{Program}
use Rattle.ir_model.specs.State.{SourceState, SourceTurn}
use Rattle.ir_model.specs.Step.{source_turn, source_step, source_event}
use Rattle.ir_run.specs.declared.outcome.SourceEnd as code
use Rattle.ir_run.specs.declared.outcome.SourceStep.{SourceStep}
use Rattle.ir_run.specs.declared.outcome.SourceStep.TheVariants as answer
use Rattle.ir_run.specs.Acts as acts
use Rattle.ir_run.specs.Runs.{RunState, IsRunning, IsStep}
use Rattle.ir_output.specs.SourceRuns.{ending_of}
use Rattle.ir_output.specs.Ends.{seen_end}
use Rattle.ir_output.proofs.Sources.{goes_on}
use Rattle.aces_selftest.specs.declared.sources.SourceCount.{SourceCount}
use Rattle.aces_selftest.specs.Counts.{IsSourceCount}
use Rattle.aces_selftest.proofs.Going.{Going, Ending, not_begun, quiet, tells, ended}

-- a run that has made so many steps from a state on, has not ended, and has told this
pub record Runs (p : Program) (c : List ℕ) (s : SourceState) (n : ℕ) (r : RunState) (told : List Event) : Type 0 where
  pub program : r.program ≡ p
  pub compartments : r.compartments ≡ c
  pub taken : r.taken ≡ n
  pub going : Going ending_of (source_step p c) (source_event p c) s n r.state told

pub begun : (r : RunState) → r.taken ≡ 0 → ending_of r.state ≡ None → Runs r.program r.compartments r.state 0 r []
begun r t h =
    record {
      program = refl;
      compartments = refl;
      taken = t;
      going = not_begun ending_of (source_step r.program r.compartments) (source_event r.program r.compartments) r.state h;
    }

module _ (p : Program) (c : List ℕ) (s : SourceState) (n : ℕ) (old new : RunState) (told : List Event) (h : Runs p c s n old told) where
  same_turn : source_turn old.program old.compartments old.state ≡ source_turn p c old.state
  same_turn = ap (λ q. source_turn q old.compartments old.state) h.program ∙ ap (λ d. source_turn p d old.state) h.compartments

  leads : (a : SourceStep) → IsStep old a new → source_step p c old.state ≡ new.state
  leads a i = sym (ap (λ (t : SourceTurn). t.to) same_turn) ∙ sym (ap (λ (r : RunState). r.state) i.onward)

  goes_behind : (a : SourceStep) → IsStep old a new → IsRunning (source_turn old.program old.compartments old.state).to → ending_of new.state ≡ None
  goes_behind a i running = ap (λ (r : RunState). ending_of r.state) i.onward ∙ goes_on _ running

  by_going : (a : SourceStep) → IsStep old a new → (more : List Event) → Going ending_of (source_step p c) (source_event p c) s (n + 1) new.state more
      → Runs p c s (n + 1) new more
  by_going a i more going =
      let next : new.taken ≡ suc old.taken = ap (λ (r : RunState). r.taken) i.onward in
      let before : old.taken ≡ n = h.taken in
      record {
        program = ap (λ (r : RunState). r.program) i.onward ∙ h.program;
        compartments = ap (λ (r : RunState). r.compartments) i.onward ∙ h.compartments;
        taken = omega arith;
        going = going;
      }

  pub ran : (a : SourceStep) → IsStep old a new → a ≡ answer.Ran → Runs p c s (n + 1) new told
  ran a i e =
      let j = subst (λ x. IsStep old x new) e i in
      by_going answer.Ran j told
      (quiet ending_of (source_step p c) (source_event p c) s n old.state new.state told h.going (leads answer.Ran j)
      (sym (ap (λ (t : SourceTurn). t.event) same_turn) ∙ j.says.1) (goes_behind answer.Ran j j.says.0))

  pub told_of : (a : SourceStep) (x : Event) → IsStep old a new → a ≡ answer.Event x → Runs p c s (n + 1) new (told ++ x ∷ [])
  told_of a x i e =
      let j = subst (λ y. IsStep old y new) e i in
      by_going (answer.Event x) j (told ++ x ∷ [])
      (tells ending_of (source_step p c) (source_event p c) s n old.state new.state told h.going (leads (answer.Event x) j) x
      (sym (ap (λ (t : SourceTurn). t.event) same_turn) ∙ j.says.1) (goes_behind (answer.Event x) j j.says.0))

  pub ended_by : (limit : ℕ) (a : SourceStep) (e : code.SourceEnd) → n < limit → IsStep old a new → a ≡ answer.Ended e
      → Ending ending_of (source_step p c) (source_event p c) limit s (n + 1) (Some (acts.end_of e)) told
  ended_by limit a e more i is =
      let j = subst (λ x. IsStep old x new) is i in
      ended ending_of (source_step p c) (source_event p c) s n old.state new.state told h.going (leads (answer.Ended e) j) limit (acts.end_of e) more
      (sym (ap (λ (t : SourceTurn). t.event) same_turn) ∙ j.says.1)
      (ap (λ (r : RunState). ending_of r.state) j.onward ∙ ap ending_of j.says.0)

-- what is counted of a run that has ended, or made all its steps
pub counted : (p : Program) (c : List ℕ) (limit : ℕ) (s : SourceState) (count : SourceCount)
    → Ending ending_of (source_step p c) (source_event p c) limit s count.steps (seen_end count.end) count.events.items → IsSourceCount p c limit s count
counted p c limit s count h = record { takes = h.takes; events = h.events; end = h.end }

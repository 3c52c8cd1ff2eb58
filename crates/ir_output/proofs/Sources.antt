-- Runs of the source that have made so many steps, and what the answer of the next step says.
use Rattle.std.proofs.Common.{◌≡◌, ℕ, suc, ◌+◌, ◌<◌, List, Some, None, refl, ap, sym, ◌∙◌, subst, arith}
use Rattle.base_words.specs.Runs.{run}
use Rattle.base_events.specs.declared.event.Event.{Event}
use Rattle.ir_model.specs.Resolved.{Program}
use Rattle.ir_model.specs.State.{SourceEnd, SourceState, Running, Ended, SourceTurn}
use Rattle.ir_model.specs.Step.{source_turn, source_step, source_event}
use Rattle.ir_run.specs.declared.outcome.SourceEnd as code
use Rattle.ir_run.specs.declared.outcome.SourceStep.{SourceStep}
use Rattle.ir_run.specs.declared.outcome.SourceStep.TheVariants as answer
use Rattle.ir_run.specs.Acts as acts
use Rattle.ir_run.specs.Runs.{RunState, IsRunning, IsStep}
use Rattle.ir_output.specs.SourceRuns.{ending_of, end_of}
use Rattle.base_words.proofs.Runs.{run_none}
use Rattle.base_words.proofs.EventLines.{run_behind, run_ended, lines, lines_ended}

-- a run that has ended stays, and has no event
pub ended_stays : (p : Program) (c : List ℕ) (e : SourceEnd) → source_step p c (Ended e) ≡ Ended e
unfolding source_turn
ended_stays p c e = refl

ended_silent : (p : Program) (c : List ℕ) (e : SourceEnd) → source_event p c (Ended e) ≡ None
unfolding source_turn
ended_silent p c e = refl

-- a state that runs has no end
pub goes_on : (s : SourceState) → IsRunning s → ending_of s ≡ None
goes_on (Running frames m) h = refl
goes_on (Ended e) h = absurd h

-- a run that has made so many steps from a state on and has not ended
pub record HasRun (p : Program) (c : List ℕ) (s : SourceState) (k : ℕ) (r : RunState) : Type 0 where
  pub program : r.program ≡ p
  pub compartments : r.compartments ≡ c
  pub state : r.state ≡ run (source_step p c) k s
  pub goes : ending_of r.state ≡ None
  pub taken : r.taken ≡ k

pub not_begun : (r : RunState) → r.taken ≡ 0 → ending_of r.state ≡ None → HasRun r.program r.compartments r.state 0 r
not_begun r t h = record {
  program = refl;
  compartments = refl;
  state = sym (run_none (source_step r.program r.compartments) r.state);
  goes = h;
  taken = t;
}

module _ (p : Program) (c : List ℕ) (s : SourceState) (k : ℕ) (old new : RunState) (h : HasRun p c s k old) where
  -- the turn of the next step
  same_turn : source_turn old.program old.compartments old.state ≡ source_turn p c (run (source_step p c) k s)
  same_turn =
      ap (λ q. source_turn q old.compartments old.state) h.program ∙ ap (λ d. source_turn p d old.state) h.compartments ∙ ap (source_turn p c) h.state

  moved : (a : SourceStep) → IsStep old a new → IsRunning (source_turn old.program old.compartments old.state).to → HasRun p c s (k + 1) new
  moved a i goes =
      let more : new.taken ≡ suc old.taken = ap (λ (r : RunState). r.taken) i.onward in
      let before : old.taken ≡ k = h.taken in
      record {
        program = ap (λ (r : RunState). r.program) i.onward ∙ h.program;
        compartments = ap (λ (r : RunState). r.compartments) i.onward ∙ h.compartments;
        state = ap (λ (r : RunState). r.state) i.onward ∙ ap (λ (t : SourceTurn). t.to) same_turn ∙ sym (run_behind (source_step p c) k s);
        goes = ap (λ (r : RunState). ending_of r.state) i.onward ∙ goes_on _ goes;
        taken = omega arith;
      }

  -- the next step ran
  pub ran : (a : SourceStep) → IsStep old a new → a ≡ answer.Ran → HasRun p c s (k + 1) new
  ran a i e = let j = subst (λ x. IsStep old x new) e i in moved answer.Ran j j.says.0

  pub ran_quiet : (a : SourceStep) → IsStep old a new → a ≡ answer.Ran → source_event p c (run (source_step p c) k s) ≡ None
  ran_quiet a i e = let j = subst (λ x. IsStep old x new) e i in sym (ap (λ (t : SourceTurn). t.event) same_turn) ∙ j.says.1

  -- it told an event
  pub told : (a : SourceStep) (x : Event) → IsStep old a new → a ≡ answer.Event x → HasRun p c s (k + 1) new
  told a x i e = let j = subst (λ y. IsStep old y new) e i in moved (answer.Event x) j j.says.0

  pub told_event : (a : SourceStep) (x : Event) → IsStep old a new → a ≡ answer.Event x → source_event p c (run (source_step p c) k s) ≡ Some x
  told_event a x i e = let j = subst (λ y. IsStep old y new) e i in sym (ap (λ (t : SourceTurn). t.event) same_turn) ∙ j.says.1

  -- it told the end: any more steps have this end, with the lines of those before
  module _ (n : ℕ) (more : k < n) (a : SourceStep) (e : code.SourceEnd) (i : IsStep old a new) (is : a ≡ answer.Ended e) where
    pub ends : source_step p c (run (source_step p c) k s) ≡ Ended (acts.end_of e)
    ends = let j = subst (λ x. IsStep old x new) is i in sym (ap (λ (t : SourceTurn). t.to) same_turn) ∙ j.says.0

    silent : source_event p c (run (source_step p c) k s) ≡ None
    silent = let j = subst (λ x. IsStep old x new) is i in sym (ap (λ (t : SourceTurn). t.event) same_turn) ∙ j.says.1

    pub ended_so : Some (acts.end_of e) ≡ end_of p c n s
    ended_so = sym (ap ending_of (run_ended (source_step p c) k n s (Ended (acts.end_of e)) more ends (ended_stays p c (acts.end_of e))))

    pub same_lines : (line : Event → List ℕ) → lines (source_step p c) (source_event p c) line n s ≡ lines (source_step p c) (source_event p c) line k s
    same_lines line =
        lines_ended (source_step p c) (source_event p c) line k n s (Ended (acts.end_of e)) more silent ends
        (ended_stays p c (acts.end_of e)) (ended_silent p c (acts.end_of e))

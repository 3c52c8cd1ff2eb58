-- Beyond the program's claim: only laws, proofs and functions inside the tool cite this file.
-- Runs of a source as callers see them, and what a step answers.
use Rattle.std.specs.Prelude.{◌≡◌, ℕ, suc, ◌<◌, ◌≤◌, ◌^◌, List, Some, None}
use Rattle.ir_model.specs.Checked.{IsChecked}
use Rattle.ir_model.specs.Runs.{source_after}
use Rattle.ir_model.specs.Resolved.{Program}
use Rattle.ir_model.specs.State.{SourceState, Running, SourceTurn}
use Rattle.ir_model.specs.State as state
use Rattle.ir_model.specs.Step.{source_turn, source_step}
use Rattle.ir_laws.specs.Laws.{HasOrderedFrames, IsDeclaredAccess}
use Rattle.ir_run.specs.Acts.{end_of}
use Rattle.ir_run.specs.declared.outcome.SourceStep.{SourceStep}
use Rattle.ir_run.specs.declared.outcome.SourceStep.TheVariants.{Ran, Event, Ended}

-- the program that is run, the compartment of each of its functions, the state, and how many steps were answered
pub record RunState : Type 0 where
  pub program : Program
  pub compartments : List ℕ
  pub state : SourceState
  pub taken : ℕ

-- no more frames than so many were made
abbrev pub HasMade : ℕ → SourceState → Type 0
HasMade n (Running frames m) = m.made ≤ n
HasMade n (state.Ended e) = Unit {0}

-- what holds of every run: it is where its steps lead from the start, on some recorded input, and each made at most one frame
pub record IsRun (r : RunState) : Type 0 where
  pub queues : List (List ℕ)
  pub checked : IsChecked r.program
  pub reached : r.state ≡ source_after r.program r.compartments queues r.taken
  pub frames : HasOrderedFrames r.state
  pub made : HasMade (suc r.taken) r.state
  pub few : r.taken < 2 ^ 64

abbrev pub IsRunning : SourceState → Type 0
IsRunning (Running frames m) = Unit {0}
IsRunning (state.Ended e) = ⊥

-- a step's answer: the end of the run, else the step's event
abbrev pub IsAnswer : SourceTurn → SourceStep → Type 0
IsAnswer t Ran = IsRunning t.to × (t.event ≡ None)
IsAnswer t (Event e) = IsRunning t.to × (t.event ≡ Some e)
IsAnswer t (Ended e) = (t.to ≡ state.Ended (end_of e)) × (t.event ≡ None)

-- a step of a run, and what it answers
pub record IsStep (old : RunState) (answer : SourceStep) (new : RunState) : Type 0 where
  pub onward : new ≡ record old { state = source_step old.program old.compartments old.state; taken = suc old.taken }
  pub says : IsAnswer (source_turn old.program old.compartments old.state) answer

-- an event that is answered is an access inside the window of a declared peripheral
abbrev pub AnswersDeclared : Program → SourceStep → Type 0
AnswersDeclared p Ran = Unit {0}
AnswersDeclared p (Event e) = IsDeclaredAccess p e
AnswersDeclared p (Ended e) = Unit {0}

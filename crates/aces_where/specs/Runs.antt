-- The steps that a run of the source makes within a limit, where it then stands, and the lines that tell it.
use Rattle.std.specs.Prelude.{◌≡◌, ◌≢◌, ℕ, ◌-◌, ◌<◌, ◌≤◌, ◌⊎◌, List, None}
use Rattle.ir_model.specs.Plain.{PlainFirmware}
use Rattle.ir_model.specs.Resolved.{Program}
use Rattle.ir_model.specs.Resolve.{resolve}
use Rattle.ir_model.specs.State.{Frame, SourceState, Running, Ended}
use Rattle.ir_model.specs.Runs.{source_after}
use Rattle.ir_run.specs.Reads.{frames_of}
use Rattle.ir_output.specs.SourceRuns.{ending_of, source_end}
use Rattle.aces_where.specs.PlaceLines.{place_lines}

-- the frames of a state, or, where a step has ended the run, those that the step was made from
abbrev pub frames_behind : (before behind : SourceState) → List Frame
frames_behind before (Running frames m) = frames
frames_behind before (Ended how) = frames_of before

module _ (p : Program) (compartments : List ℕ) (queues : List (List ℕ)) where
  -- of at most so many steps these are made: the run goes on before each of them, and behind them it has ended, or no more were asked for
  pub record IsRunOut (limit steps : ℕ) : Type 0 where
    pub few : steps ≤ limit
    pub goes_on : (k : ℕ) → k < steps → ending_of (source_after p compartments queues k) ≡ None
    pub over : (steps ≡ limit) ⊎ (ending_of (source_after p compartments queues steps) ≢ None)

  -- the frames where a run of so many steps stands
  abbrev pub standing : (steps : ℕ) → List Frame
  standing n = frames_behind (source_after p compartments queues (n - 1)) (source_after p compartments queues n)

-- the lines on a run of at most so many steps of a firmware; the end is that of `source` by as many steps
pub record AreLines (w : PlainFirmware) (compartments : List ℕ) (queues : List (List ℕ)) (limit : ℕ) (lines : List ℕ) : Type 0 where
  pub steps : ℕ
  pub run_out : IsRunOut (resolve w) compartments queues limit steps
  pub told : lines ≡ place_lines w (resolve w) steps (source_end w compartments queues limit) (standing (resolve w) compartments queues steps)

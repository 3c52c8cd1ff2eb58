-- Beyond the program's claim: only laws, proofs and functions inside the tool cite this file.
-- How far a run of the code came.
use Rattle.std.specs.Prelude.{◌≡◌, ℕ, ◌+◌, ◌<◌, ◌≤◌, List, Option, Some, None}
use Rattle.ir_model.specs.Plain.{PlainFirmware}
use Rattle.ir_model.specs.Resolved.{Program}
use Rattle.ir_model.specs.Resolve.{resolve}
use Rattle.ir_model.specs.State.{SourceState, Ended}
use Rattle.ir_model.specs.Step.{source_step}
use Rattle.ir_model.specs.Runs.{source_after}
use Rattle.ir_run.specs.declared.outcome.SourceEnd.{SourceEnd}
use Rattle.ir_run.specs.Acts.{end_of}
use Rattle.ir_run.specs.Reads.{frames_of}
use Rattle.ir_output.specs.Ends.{seen_end}
use Rattle.ir_output.specs.SourceRuns.{ending_of}
use Rattle.aces_where.specs.PlaceLines.{place_lines}
use Rattle.aces_where.specs.declared.running.Halt.{Halt}
use Rattle.base_words.specs.Runs.{run}

module _ (p : Program) (compartments : List ℕ) (limit : ℕ) (s : SourceState) where
  -- what the step behind `going` steps did: there is none, or it ended the run
  abbrev pub IsOver : (going made : ℕ) → Option SourceEnd → Type 0
  IsOver going made None = (going ≡ limit) × (made ≡ going)
  IsOver going made (Some e) = (going < limit) × ((made ≡ going + 1) × (run (source_step p compartments) (going + 1) s ≡ Ended (end_of e)))

  -- the run goes on before each step and behind `going` of them, and is then over
  pub record IsHalt (h : Halt) : Type 0 where
    pub goes_on : (k : ℕ) → k ≤ h.going → ending_of (run (source_step p compartments) k s) ≡ None
    pub over : IsOver h.going h.made h.end

-- the lines of where it stands, which are told of the state before the step that ended it
abbrev pub halt_lines : PlainFirmware → (compartments : List ℕ) → (queues : List (List ℕ)) → Halt → List ℕ
halt_lines w c queues h = place_lines w (resolve w) h.made (seen_end h.end) (frames_of (source_after (resolve w) c queues h.going))

-- Beyond the program's claim: only laws, proofs and functions inside the tool cite this file.
-- What a command answers that prints lines and writes no file.
use Rattle.std.specs.Prelude.{◌≡◌, ℕ, List, Result, Ok, Err, None, true, false}
use Rattle.base_outside.specs.Sinks.{SinkState, Puts}
use Rattle.aces_reports.specs.declared.failure.Done.{Done}
use Rattle.aces_reports.specs.declared.failure.Failure.{Failure}
use Rattle.aces_reports.specs.declared.failure.Failure.TheVariants.{Refused, PastLimit, Denied, NoRoom, Unread, Unwritten, Unprinted, NoMemory}
use Rattle.aces_reports.specs.Ends.{status_of}
use Rattle.aces_files.specs.Outcomes.{Outcome, done}
use Rattle.aces_files.specs.declared.telling.CommandOutput.{CommandOutput}

-- the outcome of a command that prints these lines, and has this end
abbrev pub told_outcome : CommandOutput → Outcome
told_outcome t = done (status_of (Ok t.done)) t.lines.items None

-- these bytes are printed, and the command has this end; or the output failed
abbrev pub Prints : (old new : SinkState) → List ℕ → Done → Result Done Failure → Type 0
Prints old new lines d (Ok e) = (e ≡ d) × Puts old new lines true
Prints old new lines d (Err (Refused name fault)) = ⊥
Prints old new lines d (Err (PastLimit which count)) = ⊥
Prints old new lines d (Err (Denied said)) = ⊥
Prints old new lines d (Err (NoRoom lack)) = ⊥
Prints old new lines d (Err (Unread name)) = ⊥
Prints old new lines d (Err (Unwritten name)) = ⊥
Prints old new lines d (Err Unprinted) = Puts old new lines false
Prints old new lines d (Err NoMemory) = ⊥

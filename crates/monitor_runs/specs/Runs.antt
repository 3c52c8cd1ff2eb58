-- Who runs, that calls come back, and that unread bytes do nothing, in each run: the statement of a law.
use Rattle.machine_devices.specs.declared.image.Image.{Image}
use Rattle.machine_model.specs.State.{State}
use Rattle.machine_model.specs.Reset.{EachRun}
use Rattle.monitor_model.specs.declared.tables.Tables.{Tables}
use Rattle.monitor_runs.specs.WhoRuns.{WhoRuns, CallsComeBack}
use Rattle.monitor_runs.specs.Unread.{UnreadBytesDoNothing}

-- from whatever a reset leaves
abbrev pub TellsWhoRuns : Image → Tables → Type 0
TellsWhoRuns i t = EachRun i (λ (first : State). WhoRuns i t first × CallsComeBack i t first × UnreadBytesDoNothing i t first)

-- What a call found outside, and what it left there.
use Rattle.base_outside.specs.declared.files.Files as files
use Rattle.base_outside.specs.declared.sink.Sink as sinks
use Rattle.base_outside.specs.Sinks.{SinkState, sink}
use Rattle.aces_files.specs.Effects.{World, world}

-- files and what is printed, and the lines on `err`, before a call and behind it
pub record Seen : Type 0 where
  pub old : World
  pub new : World
  pub err_old : SinkState
  pub err_new : SinkState

abbrev pub between : (old new : World) (err_old err_new : SinkState) → Seen
between old new err_old err_new = record { old = old; new = new; err_old = err_old; err_new = err_new }

abbrev pub seen : {F O E : Type 0} → files.Ghosts F → sinks.Ghosts O → sinks.Ghosts E → (files_old files_new : F) (out_old out_new : O) (err_old err_new : E) → Seen
seen of out err fs gs o p e d = between (world of fs (sink out o)) (world of gs (sink out p)) (sink err e) (sink err d)

use Rattle.std.proofs.Common.{◌≡◌, take}
use Rattle.machine_devices.specs.Queues.{all_empty}
use Rattle.machine_devices.proofs.tape.Tape.for_windows.Given as goal

abbrev pub invariant-loop-window : goal.invariant-loop-window
invariant-loop-window l = l.list.items ≡ all_empty (take l._window-index l.names)

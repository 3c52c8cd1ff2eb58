use Rattle.std.proofs.Common.{◌≡◌, take}
use Rattle.machine_devices.proofs.image.copied_windows.Given as goal

abbrev pub invariant-loop-window : goal.invariant-loop-window
invariant-loop-window l = l.copies.items ≡ take l.window-index l.windows

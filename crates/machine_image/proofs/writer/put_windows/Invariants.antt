use Rattle.std.proofs.Common.{◌≡◌, ◌++◌, take}
use Rattle.std.specs.List.{flat_map}
use Rattle.machine_image.specs.Text.{window_bytes}
use Rattle.machine_image.proofs.writer.put_windows.Given as goal

-- the windows so far are written
abbrev pub invariant-loop-window : goal.invariant-loop-window
invariant-loop-window l = l.out.items ≡ l.initial.out.items ++ flat_map window_bytes (take l.window-index l.windows)

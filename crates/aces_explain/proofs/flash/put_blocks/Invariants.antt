use Rattle.std.proofs.Common.{◌≡◌, ◌++◌, flat_map, take}
use Rattle.aces_explain.specs.Blocks.{flash_line}
use Rattle.aces_explain.proofs.flash.put_blocks.Given as goal

abbrev pub invariant-loop-i : goal.invariant-loop-i
invariant-loop-i l = l.text ≡ l.initial.text ++ flat_map flash_line (take l.i l.blocks)

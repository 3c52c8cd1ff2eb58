use Rattle.std.proofs.Common.{◌≡◌, ◌++◌, map, flat_map, take}
use Rattle.ir_model.specs.Plain.{firmware_of}
use Rattle.plan_layout.specs.Filling.{block_seen}
use Rattle.aces_explain.specs.Blocks.{ram_line}
use Rattle.aces_explain.proofs.ram.put_blocks.Given as goal

abbrev pub invariant-loop-i : goal.invariant-loop-i
invariant-loop-i l = l.text ≡ l.initial.text ++ flat_map (ram_line (firmware_of l.firmware) l.graph) (map block_seen (take l.i l.blocks))

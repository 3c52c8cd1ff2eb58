use Rattle.std.proofs.Common.{◌≡◌, ◌++◌, take, flat_map}
use Rattle.ir_grammar.specs.Spelling.{spell_block}
use Rattle.ir_printer.specs.Pieces.{as_bytes}
use Rattle.ir_printer.proofs.functions.put_blocks.Given as goal

abbrev pub invariant-loop-block : goal.invariant-loop-block
invariant-loop-block l = l.out.items ≡ l.initial.out.items ++ flat_map (spell_block as_bytes) (take l.block-index l.blocks)

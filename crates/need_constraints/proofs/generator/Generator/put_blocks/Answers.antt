use Rattle.std.proofs.Common.{arith}
use Rattle.ir_program.specs.Parts.{sequence_of}
use Rattle.ir_program.specs.Seen.{program_of, known_of}
use Rattle.need_sets.specs.Demands.{block_demands}
use Rattle.need_constraints.proofs.Gathering.{gathers_none, items_more, items_all}
use Rattle.need_constraints.proofs.generator.Generator.put_blocks.Goals as goal

pub loop-i-init : goal.loop-i-init
loop-i-init c = gathers_none c.args.self.now.numbering c.args.rules.now

pub loop-i-preserved : goal.loop-i-preserved
loop-i-preserved c =
    items_more c.args.self.now.numbering c.args.rules.now c.loop-i.rules c.put_block.new.rules (sequence_of (known_of c.args.self.now.program.now)) (block_demands (program_of c.args.self.now.program.now) c.args.func) c.args.blocks.now c.loop-i.i c.index-blocks-i.result (omega arith) c.index-blocks-i.is c.loop-i.invariant c.in_ok-put_block.ensures

pub returns : goal.returns
returns c = items_all c.args.self.now.numbering c.args.rules.now c.loop-i.rules (sequence_of (known_of c.args.self.now.program.now)) (block_demands (program_of c.args.self.now.program.now) c.args.func) c.args.blocks.now c.loop-i.i (omega arith) c.loop-i.invariant

use Rattle.ir_program.specs.Seen.{program_of}
use Rattle.plan_layout.proofs.Steps.{ram_blocks_are}
use Rattle.plan_layout.proofs.ram.ram_blocks.Goals as goal

pub returns : goal.returns
returns c =
    ram_blocks_are (program_of c.args.program.now) c.args.fin.now c.args.stack c.full.result c.in_ok-blocks.blocks.items c.insert.new.self.items c.in_ok-insert.ensures.items c.full.ensures c.in_ok-blocks.ensures

use Rattle.std.proofs.Common.{arith}
use Rattle.ir_program.specs.Parts.{operation_of}
use Rattle.ir_program.specs.Seen.{program_of, known_of}
use Rattle.need_sets.specs.Demands.{inst_demands}
use Rattle.need_constraints.proofs.Gathering.{gathers_none, items_more, items_all}
use Rattle.need_constraints.proofs.generator.Generator.put_operations.Goals as goal

pub loop-i-init : goal.loop-i-init
loop-i-init c = gathers_none c.args.self.now.numbering c.args.rules.now

pub loop-i-preserved : goal.loop-i-preserved
loop-i-preserved c =
    items_more c.args.self.now.numbering c.args.rules.now c.loop-i.rules c.put_operation.new.rules (operation_of (known_of c.args.self.now.program.now)) (inst_demands (program_of c.args.self.now.program.now) c.args.func) c.args.operations.now c.loop-i.i c.index-operations-i.result (omega arith) c.index-operations-i.is c.loop-i.invariant c.in_ok-put_operation.ensures

pub returns : goal.returns
returns c = items_all c.args.self.now.numbering c.args.rules.now c.loop-i.rules (operation_of (known_of c.args.self.now.program.now)) (inst_demands (program_of c.args.self.now.program.now) c.args.func) c.args.operations.now c.loop-i.i (omega arith) c.loop-i.invariant

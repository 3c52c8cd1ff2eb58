use Rattle.std.proofs.Common.{List, map, ap}
use Rattle.std.specs.List.{flat_map}
use Rattle.std.proofs.lemmas.Result.{on_ok_weaker}
use Rattle.ir_program.specs.declared.program.Operation.{Operation}
use Rattle.ir_program.specs.Parts.{operation_of, exit_of}
use Rattle.ir_program.specs.Seen.{program_of, known_of}
use Rattle.need_sets.specs.Demands.{inst_demands, end_demands}
use Rattle.need_constraints.proofs.Gathering.{gathers_more, gathers_same}
use Rattle.need_constraints.proofs.generator.Generator.put_block.Goals as goal

pub returns : goal.returns
returns c =
    on_ok_weaker c.put_exit.result
    (λ h. gathers_more c.args.self.now.numbering c.args.rules.now c.put_operations.new.rules c.put_exit.new.rules
    (flat_map (inst_demands (program_of c.args.self.now.program.now) c.args.func) (map (operation_of (known_of c.args.self.now.program.now)) c.args.block.now.operations)) (end_demands (program_of c.args.self.now.program.now) c.args.func (exit_of c.args.block.now.exit))
    (gathers_same c.args.self.now.numbering c.args.rules.now c.put_operations.new.rules _ _ (ap (λ (l : List Operation). flat_map (inst_demands (program_of c.args.self.now.program.now) c.args.func) (map (operation_of (known_of c.args.self.now.program.now)) l)) c.as_slice.ensures) c.in_ok-put_operations.ensures) h)
    c.put_exit.ensures

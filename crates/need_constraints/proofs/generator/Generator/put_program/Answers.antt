use Rattle.std.proofs.Common.{length}
use Rattle.std.specs.List.{flat_map}
use Rattle.std.proofs.lemmas.Result.{on_ok_weaker}
use Rattle.plan_model.specs.Lists.{numbers_below}
use Rattle.ir_program.specs.Seen.{program_of}
use Rattle.need_sets.specs.Demands.{func_demands, global_demands}
use Rattle.need_constraints.proofs.Gathering.{gathers_more}
use Rattle.need_constraints.proofs.generator.Generator.put_program.Goals as goal

pub returns : goal.returns
returns c =
    on_ok_weaker c.put_globals.result
    (λ h. gathers_more c.args.self.now.numbering c.args.rules.now c.put_funcs.new.rules c.put_globals.new.rules (flat_map (func_demands (program_of c.args.self.now.program.now)) (numbers_below (length (program_of c.args.self.now.program.now).funcs))) (flat_map (global_demands (program_of c.args.self.now.program.now)) (numbers_below (length (program_of c.args.self.now.program.now).globals))) c.in_ok-put_funcs.ensures h)
    c.put_globals.ensures

use Rattle.std.proofs.Common.{length}
use Rattle.std.specs.List.{flat_map}
use Rattle.std.proofs.lemmas.Result.{on_ok_weaker}
use Rattle.plan_model.specs.Lists.{numbers_below}
use Rattle.ir_program.specs.Seen.{program_of}
use Rattle.need_sets.specs.Demands.{argument_passed, result_passed}
use Rattle.need_constraints.proofs.Gathering.{gathers_more}
use Rattle.need_constraints.proofs.generator.Generator.put_call.Goals as goal

pub returns : goal.returns
returns c =
    on_ok_weaker c.put_result.result
    (λ h. gathers_more c.args.self.now.numbering c.args.rules.now c.put_arguments.new.rules c.put_result.new.rules (flat_map (argument_passed (program_of c.args.self.now.program.now) c.args.func c.args.callee c.args.args.now) (numbers_below (length c.args.args.now))) (result_passed (program_of c.args.self.now.program.now) c.args.func c.args.callee c.args.to) c.in_ok-put_arguments.ensures h)
    c.put_result.ensures

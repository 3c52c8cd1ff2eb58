use Rattle.std.proofs.Common.{length}
use Rattle.std.specs.List.{flat_map}
use Rattle.std.proofs.lemmas.Result.{on_ok_weaker}
use Rattle.plan_model.specs.Lists.{numbers_below}
use Rattle.ir_program.specs.Seen.{program_of}
use Rattle.need_sets.specs.Demands.{argument_given, result_taken}
use Rattle.need_constraints.proofs.Gathering.{gathers_more}
use Rattle.need_constraints.proofs.generator.Generator.put_indirect.Goals as goal

pub returns : goal.returns
returns c =
    on_ok_weaker c.put_taken.result
    (λ h. gathers_more c.args.self.now.numbering c.args.rules.now c.put_all_given.new.rules c.put_taken.new.rules (flat_map (argument_given (program_of c.args.self.now.program.now) c.args.func c.args.pointer c.args.args.now) (numbers_below (length c.args.args.now))) (result_taken (program_of c.args.self.now.program.now) c.args.func c.args.pointer c.args.to) c.in_ok-put_all_given.ensures h)
    c.put_taken.ensures

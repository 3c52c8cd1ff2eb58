use Rattle.std.proofs.Common.{[]}
use Rattle.need_constraints.proofs.generator.Generator.rules.Goals as goal

pub returns : goal.returns
returns c = c.in_ok-put_program.ensures.more [] (c.in_ok-rules.ensures c.args.self.now.numbering)

use Rattle.std.proofs.lemmas.Result.{on_ok_weaker}
use Rattle.need_constraints.proofs.Gathering.{gathers_same}
use Rattle.need_constraints.proofs.Reading.{blocks_read}
use Rattle.need_constraints.proofs.generator.Generator.put_func.Goals as goal

pub returns : goal.returns
returns c =
    on_ok_weaker c.put_blocks.result
    (λ h. gathers_same c.args.self.now.numbering c.args.rules.now c.put_blocks.new.rules _ _
    (blocks_read c.args.self.now.program.now c.as_slice.result.now c.args.func c.index-as_slice-func.result c.as_slice-2.result.now c.as_slice.ensures c.index-as_slice-func.is c.as_slice-2.ensures c.requires) h)
    c.put_blocks.ensures

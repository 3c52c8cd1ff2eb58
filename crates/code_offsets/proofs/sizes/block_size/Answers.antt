use Rattle.std.proofs.Common.{[], arith}
use Rattle.std.proofs.lemmas.Grind.{common_steps}
use Rattle.ir_program.specs.Parts.{routine_of}
use Rattle.code_offsets.proofs.Offsets.{insts_all}
use Rattle.code_offsets.proofs.sizes.block_size.Goals as goal

pub returns : goal.returns
returns c =
    let g = routine_of [] c.args.routine.now in
    let h = c.in_ok-insts.ensures g c.args.lent in
    let e = insts_all g c.args.sites.now c.args.lent c.args.block c.args.sequence.now.operations in
    grind (arith, common_steps, h, e)

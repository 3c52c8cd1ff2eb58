use Rattle.std.proofs.Common.{arith}
use Rattle.std.proofs.lemmas.Grind.{common_steps}
use Rattle.code_offsets.proofs.Offsets.{insts_more}
use Rattle.code_offsets.proofs.sizes.insts_size.Goals as goal

pub loop-place-preserved : goal.loop-place-preserved
loop-place-preserved c =
    λ g n.
    let h = c.loop-place.invariant g n in
    let e = insts_more g c.args.sites.now n c.args.block c.loop-place.place c.args.operations.now c.index-operations-place.result (omega (arith, c.requires.there, c.loop-place-test.true)) in
    grind (arith, common_steps, h, e)

pub returns : goal.returns
returns c =
    λ g n.
    let h = c.loop-place.invariant g n in
    grind (arith, common_steps, h)

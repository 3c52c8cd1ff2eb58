use Rattle.std.proofs.Common.{arith}
use Rattle.std.proofs.lemmas.Grind.{common_steps}
use Rattle.ir_text_places.proofs.Fronts.{code_of}
use Rattle.ir_text_places.proofs.before.code_start.Goals as goal

pub returns : goal.returns
returns c =
    let e = code_of c.args.bodies.now c.args.func c.args.block c.args.place c.index-bodies-func.result (omega arith) c.index-bodies-func.is in
    grind (arith, common_steps, e)

use Rattle.std.proofs.Common.{arith}
use Rattle.std.proofs.lemmas.Grind.{common_steps}
use Rattle.ir_model.specs.Plain.{func_of}
use Rattle.ir_text_places.specs.Sizes.{func_size}
use Rattle.ir_text_places.proofs.Fronts.{sum_front}
use Rattle.ir_text_places.proofs.before.func_in.Goals as goal

pub returns : goal.returns
returns c = let e = sum_front func_size func_of c.args.number c.args.file.now.funcs in grind (arith, common_steps, e)

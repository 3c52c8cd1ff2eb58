use Rattle.std.proofs.Common.{arith}
use Rattle.std.proofs.lemmas.Grind.{common_steps}
use Rattle.ir_model.specs.Plain.{global_of}
use Rattle.ir_text_places.specs.Sizes.{global_size}
use Rattle.ir_text_places.proofs.Fronts.{sum_front}
use Rattle.ir_text_places.proofs.before.global_start.Goals as goal

pub returns : goal.returns
returns c = let e = sum_front global_size global_of c.args.number c.args.firmware.now.globals in grind (arith, common_steps, e)

use Rattle.std.proofs.Common.{arith}
use Rattle.std.proofs.lemmas.Grind.{common_steps}
use Rattle.ir_model.specs.Plain.{struct_of}
use Rattle.ir_text_places.specs.Sizes.{struct_size}
use Rattle.ir_text_places.proofs.Fronts.{sum_front}
use Rattle.ir_text_places.proofs.before.size_before.Goals as goal

pub returns-in-Struct : goal.returns-in-Struct
returns-in-Struct c = let e = sum_front struct_size struct_of c.in-Struct.number c.args.firmware.now.structs in grind (arith, common_steps, e)

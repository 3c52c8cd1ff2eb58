use Rattle.std.proofs.Common.{arith}
use Rattle.machine_image.proofs.Answering.{Reads-result}
use Rattle.machine_image.proofs.reader.read.Goals as goal

pub returns : goal.returns
returns c = Reads-result c.args.bytes.now c.read_image.result (λ k. let fits = c.type_inv.bytes k in omega arith) c.read_image.ensures.passed c.read_image.ensures.fault c.read_image.ensures.value

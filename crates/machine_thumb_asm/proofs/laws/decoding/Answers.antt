use Rattle.machine_thumb_asm.proofs.Decoded.{bytes_decode, bytes_fill}
use Rattle.machine_thumb_asm.proofs.laws.decoding.Goals as goal

pub returns-clause-decode : goal.returns-clause-decode
returns-clause-decode c = bytes_decode

pub returns-clause-fill : goal.returns-clause-fill
returns-clause-fill c = bytes_fill

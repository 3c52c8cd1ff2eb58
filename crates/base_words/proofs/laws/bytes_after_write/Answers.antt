use Rattle.base_words.proofs.Bytes.{length-write, byte_inside, byte_apart, AreBytes-write}
use Rattle.base_words.proofs.laws.bytes_after_write.Goals as goal

pub returns-clause-as_long : goal.returns-clause-as_long
returns-clause-as_long c = length-write

pub returns-clause-inside : goal.returns-clause-inside
returns-clause-inside c = byte_inside

pub returns-clause-outside : goal.returns-clause-outside
returns-clause-outside c = byte_apart

pub returns-clause-still_bytes : goal.returns-clause-still_bytes
returns-clause-still_bytes c = AreBytes-write

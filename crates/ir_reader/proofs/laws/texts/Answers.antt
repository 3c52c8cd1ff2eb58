use Rattle.ir_reader.proofs.Faultless.{texts_or_faults}
use Rattle.ir_reader.proofs.Texts.{texts_unique}
use Rattle.ir_reader.proofs.laws.texts.Goals as goal

pub returns-clause-unique : goal.returns-clause-unique
returns-clause-unique c = texts_unique

pub returns-clause-whole : goal.returns-clause-whole
returns-clause-whole c = texts_or_faults

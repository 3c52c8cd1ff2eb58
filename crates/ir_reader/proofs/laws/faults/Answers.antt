use Rattle.ir_reader.proofs.Single.{faults_are_single, texts_are_faultless}
use Rattle.ir_reader.proofs.laws.faults.Goals as goal

pub returns-clause-texts : goal.returns-clause-texts
returns-clause-texts c = texts_are_faultless

pub returns-clause-single : goal.returns-clause-single
returns-clause-single c = faults_are_single

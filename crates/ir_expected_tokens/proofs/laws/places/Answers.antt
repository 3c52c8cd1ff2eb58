use Rattle.ir_expected_tokens.proofs.Agreement.{faults_are_stuck}
use Rattle.ir_expected_tokens.proofs.Closing.{ends_may_stand, texts_have_no_lines}
use Rattle.ir_expected_tokens.proofs.Fitting.{expected_may_stand}
use Rattle.ir_expected_tokens.proofs.laws.places.Goals as goal

pub returns-clause-faults : goal.returns-clause-faults
returns-clause-faults c = faults_are_stuck

pub returns-clause-expected : goal.returns-clause-expected
returns-clause-expected c = expected_may_stand

pub returns-clause-ends : goal.returns-clause-ends
returns-clause-ends c = ends_may_stand

pub returns-clause-texts : goal.returns-clause-texts
returns-clause-texts c = texts_have_no_lines

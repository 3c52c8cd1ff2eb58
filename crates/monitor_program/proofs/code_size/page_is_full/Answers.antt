use Rattle.monitor_program.proofs.Lengths.{code_fits, stub_is_there, pages_are_full}
use Rattle.monitor_program.proofs.code_size.page_is_full.Goals as goal

pub returns-clause-fits : goal.returns-clause-fits
returns-clause-fits c = code_fits

pub returns-clause-stub : goal.returns-clause-stub
returns-clause-stub c = stub_is_there

pub returns-clause-full : goal.returns-clause-full
returns-clause-full c = pages_are_full

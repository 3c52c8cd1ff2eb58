use Rattle.need_laws.proofs.Owned.{other_locals_are_lendable, lendable_locals_have_numbers}
use Rattle.need_laws.proofs.locals.Goals as goal

pub returns-clause-own : goal.returns-clause-own
returns-clause-own c = other_locals_are_lendable

pub returns-clause-numbered : goal.returns-clause-numbered
returns-clause-numbered c = lendable_locals_have_numbers

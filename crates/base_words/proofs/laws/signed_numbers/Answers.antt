use Rattle.base_words.proofs.Arithmetic.{signed_less_is, signed_at_most_is, moved_is}
use Rattle.base_words.proofs.laws.signed_numbers.Goals as goal

pub returns-clause-less : goal.returns-clause-less
returns-clause-less c = signed_less_is

pub returns-clause-at_most : goal.returns-clause-at_most
returns-clause-at_most c = signed_at_most_is

pub returns-clause-offset : goal.returns-clause-offset
returns-clause-offset c = moved_is

use Rattle.base_words.proofs.Arithmetic.{shifted_left_carry_is, shifted_left_carry_all, shifted_right_carry_is, shifted_right_carry_all}
use Rattle.base_words.proofs.laws.carries_of_shifts.Goals as goal

pub returns-clause-left : goal.returns-clause-left
returns-clause-left c = shifted_left_carry_is

pub returns-clause-left_beyond : goal.returns-clause-left_beyond
returns-clause-left_beyond c = shifted_left_carry_all

pub returns-clause-right : goal.returns-clause-right
returns-clause-right c = shifted_right_carry_is

pub returns-clause-right_beyond : goal.returns-clause-right_beyond
returns-clause-right_beyond c = shifted_right_carry_all

use Rattle.base_words.proofs.Arithmetic.{shift_left_all, shift_right_all, shift_right_signed_all}
use Rattle.base_words.proofs.laws.shifts_of_all_bits.Goals as goal

pub returns-clause-left : goal.returns-clause-left
returns-clause-left c = shift_left_all

pub returns-clause-right : goal.returns-clause-right
returns-clause-right c = shift_right_all

pub returns-clause-signed : goal.returns-clause-signed
returns-clause-signed c = shift_right_signed_all

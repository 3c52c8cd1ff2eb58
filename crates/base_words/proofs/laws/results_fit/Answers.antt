use Rattle.base_words.proofs.Arithmetic.{unsigned_quotient_fits, signed_quotient_fits, unsigned_remainder_fits, signed_remainder_fits, bit_clear_fits, shift_left_fits, shift_right_fits, shift_right_signed_fits, rotate_right_fits}
use Rattle.base_words.proofs.laws.results_fit.Goals as goal

pub returns-clause-unsigned_quotients : goal.returns-clause-unsigned_quotients
returns-clause-unsigned_quotients c = unsigned_quotient_fits

pub returns-clause-signed_quotients : goal.returns-clause-signed_quotients
returns-clause-signed_quotients c = signed_quotient_fits

pub returns-clause-unsigned_remainders : goal.returns-clause-unsigned_remainders
returns-clause-unsigned_remainders c = unsigned_remainder_fits

pub returns-clause-signed_remainders : goal.returns-clause-signed_remainders
returns-clause-signed_remainders c = signed_remainder_fits

pub returns-clause-cleared : goal.returns-clause-cleared
returns-clause-cleared c = bit_clear_fits

pub returns-clause-left : goal.returns-clause-left
returns-clause-left c = shift_left_fits

pub returns-clause-right : goal.returns-clause-right
returns-clause-right c = shift_right_fits

pub returns-clause-signed : goal.returns-clause-signed
returns-clause-signed c = shift_right_signed_fits

pub returns-clause-rotated : goal.returns-clause-rotated
returns-clause-rotated c = rotate_right_fits

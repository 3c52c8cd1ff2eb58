use Rattle.base_words.proofs.Arithmetic.{unsigned_quotient_by_zero, signed_quotient_by_zero, signed_quotient_least, unsigned_remainder_is, signed_remainder_by_zero, signed_remainder_is}
use Rattle.base_words.proofs.laws.quotients.Goals as goal

pub returns-clause-unsigned_by_zero : goal.returns-clause-unsigned_by_zero
returns-clause-unsigned_by_zero c = unsigned_quotient_by_zero

pub returns-clause-signed_by_zero : goal.returns-clause-signed_by_zero
returns-clause-signed_by_zero c = signed_quotient_by_zero

pub returns-clause-least_by_minus_one : goal.returns-clause-least_by_minus_one
returns-clause-least_by_minus_one c = signed_quotient_least

pub returns-clause-unsigned_rest : goal.returns-clause-unsigned_rest
returns-clause-unsigned_rest c = unsigned_remainder_is

pub returns-clause-signed_rest_by_zero : goal.returns-clause-signed_rest_by_zero
returns-clause-signed_rest_by_zero c = signed_remainder_by_zero

pub returns-clause-signed_rest : goal.returns-clause-signed_rest
returns-clause-signed_rest c = signed_remainder_is

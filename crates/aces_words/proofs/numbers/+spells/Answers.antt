use Rattle.aces_words.proofs.Digits.{not_empty, other_last, one_digit, more_digits}
use Rattle.aces_words.proofs.numbers.+spells.Goals as goal

pub returns-then-number-lt10 : goal.returns-then-number-lt10
returns-then-number-lt10 t c =
    one_digit c.args.digits.now c.args.number c.in-len1-up.len_at_least c.ranges.number.fits c.is_empty.result c.if-last-number.false c.if-number-lt10.true c.is_empty.ensures

pub returns-else-number-lt10 : goal.returns-else-number-lt10
returns-else-number-lt10 t c =
    more_digits c.args.digits.now c.args.number c.in-len1-up.len_at_least c.ranges.number.fits c.spells.result c.if-last-number.false c.if-number-lt10.false c.spells.ensures

pub returns-then-last-number : goal.returns-then-last-number
returns-then-last-number t c =
    (λ f. cc, λ e. absurd (other_last c.args.digits.now c.args.number c.in-len1-up.len_at_least c.ranges.number.fits c.if-last-number.true e))

pub returns-in_default : goal.returns-in_default
returns-in_default t c = (λ f. cc, λ e. absurd (not_empty c.args.digits.now c.args.number c.in_default.len_below c.ranges.number.fits e))

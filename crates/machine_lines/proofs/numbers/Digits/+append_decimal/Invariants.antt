use Rattle.machine_lines.proofs.numbers.Digits.+append_decimal.Given as goal

abbrev pub decreases-append_decimal : goal.decreases-append_decimal
decreases-append_decimal l = l.number

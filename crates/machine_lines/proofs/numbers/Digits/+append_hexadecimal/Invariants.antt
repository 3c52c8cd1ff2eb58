use Rattle.machine_lines.proofs.numbers.Digits.+append_hexadecimal.Given as goal

abbrev pub decreases-append_hexadecimal : goal.decreases-append_hexadecimal
decreases-append_hexadecimal l = l.count

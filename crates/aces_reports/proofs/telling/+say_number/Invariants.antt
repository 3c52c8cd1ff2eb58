use Rattle.aces_reports.proofs.telling.+say_number.Given as goal

-- each call has a digit less
abbrev pub decreases-say_number : goal.decreases-say_number
decreases-say_number g l = l.number

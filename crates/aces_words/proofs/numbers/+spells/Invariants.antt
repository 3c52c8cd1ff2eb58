use Rattle.aces_words.proofs.numbers.+spells.Given as goal

-- each call has a digit less
abbrev pub decreases-spells : goal.decreases-spells
decreases-spells l = l.number

use Rattle.machine_emulator.proofs.parts.Parts.+get_words.Given as goal

abbrev pub decreases-get_words : goal.decreases-get_words
decreases-get_words l = l.count

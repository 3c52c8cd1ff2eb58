use Rattle.machine_emulator.proofs.exceptions.+read_words.Given as goal

abbrev pub decreases-read_words : goal.decreases-read_words
decreases-read_words l = l.count

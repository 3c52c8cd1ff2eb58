use Rattle.machine_emulator.proofs.several.+test_words.Given as goal

abbrev pub decreases-test_words : goal.decreases-test_words
decreases-test_words l = l.count

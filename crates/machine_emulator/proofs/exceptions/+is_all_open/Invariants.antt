use Rattle.machine_emulator.proofs.exceptions.+is_all_open.Given as goal

abbrev pub decreases-is_all_open : goal.decreases-is_all_open
decreases-is_all_open l = l.count

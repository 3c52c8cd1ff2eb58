use Rattle.machine_emulator.proofs.several.+list_registers.Given as goal

abbrev pub decreases-list_registers : goal.decreases-list_registers
decreases-list_registers l = l.count

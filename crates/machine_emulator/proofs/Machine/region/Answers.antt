-- A machine stays one where a region is selected.
use Rattle.machine_emulator.specs.Parts.{state_of}
use Rattle.machine_emulator.proofs.Selected.{selects_machine}
use Rattle.machine_emulator.proofs.Machine.region.Goals as goal

pub invariant_of-self : goal.invariant_of-self
invariant_of-self c =
    let p = c.self.inside.parts in
    rw (c.write.ensures, c.from.ensures) (selects_machine c.args.number (record { image = p.bus.image; state = state_of p }) c.self.invariant.0, c.self.invariant.1)

use Rattle.machine_emulator.specs.Parts.{state_of}
use Rattle.std.proofs.Common.{ap}
use Rattle.machine_emulator.specs.Parts.{Left}
use Rattle.machine_emulator.proofs.Machines.{stays_machine, same_code}
use Rattle.machine_emulator.proofs.Machine.step.Goals as goal

pub invariant_of-self : goal.invariant_of-self
invariant_of-self c =
    let p = c.self.inside.parts in (
      stays_machine p.bus.image (state_of p) c.turn-event.new.self c.turn-event.result c.self.invariant.0 c.turn-event.ensures,
      same_code c.self.inside.code p.bus.image _ (ap (λ (l : Left). l.image) c.turn-event.ensures) c.self.invariant.1,
    )

pub returns-clause-kept : goal.returns-clause-kept
returns-clause-kept c =
    let p = c.self.inside.parts in
    stays_machine p.bus.image (state_of p) c.turn-event.new.self c.turn-event.result c.self.invariant.0 c.turn-event.ensures

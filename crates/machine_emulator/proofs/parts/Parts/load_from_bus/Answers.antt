use Rattle.machine_bus.specs.Locations.{location}
use Rattle.machine_emulator.proofs.Loaded.{loaded_below}
use Rattle.machine_emulator.proofs.parts.Parts.load_from_bus.Goals as goal

pub extended-requires : goal.extended-requires
extended-requires c =
    let m = c.args.self.now.bus in
    rw (← c.in-Value.ensures.loaded) at (loaded_below (location m.image c.args.address) m.image m.ram m.queues c.args.width)

pub extended-requires-in-Device : goal.extended-requires-in-Device
extended-requires-in-Device c =
    let m = c.args.self.now.bus in
    rw (← c.in-Device.ensures.loaded) at (loaded_below (location m.image c.args.address) m.image m.ram m.queues c.args.width)

use Rattle.machine_model.proofs.Fetches.{fetched_low}
use Rattle.machine_emulator.proofs.parts.Parts.fetch_half.Goals as goal

pub returns-clause-low : goal.returns-clause-low
returns-clause-low c =
    let m = c.args.self.now.bus in
    fetched_low m.image c.args.address m.ram c.fetch.result c.image.ensures.kept.rules c.fetch.ensures

use Rattle.std.proofs.Common.{◌≡◌, true, false, get_or, sym, ◌∙◌}
use Rattle.machine_protection.specs.Registers.{blank}
use Rattle.machine_protection.specs.Regions.{holds}
use Rattle.machine_protection.proofs.Scan.{deciding_more}
use Rattle.machine_protection.proofs.unit.deciding.Goals as goal
use Rattle.machine_protection.proofs.unit.deciding.Goals.{then-holds, else-holds}

pub loop-region-preserved : goal.loop-region-preserved
loop-region-preserved c =
    let regions = c.args.regions.now in
    let i = c.loop-region.region-index in
    let more = deciding_more regions i blank c.args.addr c.loop-region-test.true in
    elim c.if-holds.branch [
      | then-holds w ↦ (let yes' : holds (get_or regions i blank) c.args.addr ≡ true = sym c.holds.ensures ∙ w.if-holds.true in w.found-is ∙ sym (rw yes' at more))
      | else-holds w ↦ (let no' : holds (get_or regions i blank) c.args.addr ≡ false = sym c.holds.ensures ∙ w.if-holds.false in w.found-is ∙ c.loop-region.invariant ∙ sym (rw no' at more))
    ]

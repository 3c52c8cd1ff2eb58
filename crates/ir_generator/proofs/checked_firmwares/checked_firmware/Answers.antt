use Rattle.std.proofs.Common.{sym, subst}
use Rattle.ir_model.specs.Canonical.{IsWithinLimits}
use Rattle.ir_generator.proofs.Within.{made_is_within}
use Rattle.ir_generator.proofs.checked_firmwares.checked_firmware.Goals as goal

pub new-requires-clause-within : goal.new-requires-clause-within
new-requires-clause-within c = subst IsWithinLimits (sym c.in_ok-firmware.ensures) (made_is_within c.args.seed c.args.size c.requires.least c.requires.most)

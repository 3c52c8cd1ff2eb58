use Rattle.std.proofs.Common.{◌≢◌, ◌^◌, arith}
use Rattle.machine_protection.proofs.Powers.{between_is_none}
use Rattle.machine_protection.proofs.power.Pow2.new.Goals as goal

pub returns-else-n-ilog2-clause-power : goal.returns-else-n-ilog2-clause-power
returns-else-n-ilog2-clause-power c =
    let other : c.args.n ≢ 2 ^ c.ilog2.result = omega arith in
    (λ found. cc, λ power. absurd (between_is_none c.args.n c.ilog2.result c.ilog2.ensures.power_le c.ilog2.ensures.next_power_gt other power))

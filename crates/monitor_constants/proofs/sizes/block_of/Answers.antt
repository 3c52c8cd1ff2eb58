use Rattle.std.proofs.Common.{arith}
use Rattle.monitor_constants.proofs.Counted.{greatest_block, least_block, power_small}
use Rattle.monitor_constants.proofs.sizes.block_of.Goals as goal

pub returns-then-bytes-clause-exact : goal.returns-then-bytes-clause-exact
returns-then-bytes-clause-exact c = λ n e. greatest_block n c.args.bytes e c.if-bytes.true

pub returns-else-bytes-clause-exact : goal.returns-else-bytes-clause-exact
returns-else-bytes-clause-exact c = λ n e.
    least_block n c.args.bytes c.next_power_of_two.result e c.if-bytes.false c.next_power_of_two.ensures.power (omega (arith, c.max.ensures, c.next_power_of_two.ensures.lower_bound)) (omega (arith, c.max.ensures, c.next_power_of_two.ensures.upper_bound))

pub returns-else-bytes-clause-small : goal.returns-else-bytes-clause-small
returns-else-bytes-clause-small c =
    power_small c.next_power_of_two.result c.next_power_of_two.ensures.power (omega (arith, c.if-bytes.false, c.max.ensures, c.next_power_of_two.ensures.upper_bound))

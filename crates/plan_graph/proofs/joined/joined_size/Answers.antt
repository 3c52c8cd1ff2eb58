use Rattle.std.proofs.Common.{◌*◌, ◌/◌, ◌%◌, ◌^◌, nat_eq, refl, sym, arith}
use Rattle.plan_model.specs.Covers.{lowest, highest}
use Rattle.plan_graph.proofs.LeastPower.{least_power_last, size_found}
use Rattle.plan_graph.proofs.joined.joined_size.Goals as goal

pub returns-then-low-size-clause-size : goal.returns-then-low-size-clause-size
returns-then-low-size-clause-size c =
    size_found c.args.one.now c.args.other.now c.loop-exponent.exponent c.lowest-low.result c.highest-high.result (1 * 2 ^ c.loop-exponent.exponent % 2 ^ 64) (omega arith) (omega arith) refl c.lowest-low.ensures c.highest-high.ensures c.if-low-size.true c.loop-exponent.invariant

pub returns-clause-size : goal.returns-clause-size
returns-clause-size c =
    sym (least_power_last (λ n. nat_eq (lowest c.args.one.now c.args.other.now / n) (highest c.args.one.now c.args.other.now / n)) (λ i u v. c.loop-exponent.invariant i u (omega arith)))

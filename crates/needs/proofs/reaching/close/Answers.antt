use Rattle.std.proofs.Common.{subst}
use Rattle.needs.specs.Reaching.{IsSquare}
use Rattle.needs.proofs.Closing.{closed_start, closed_step}
use Rattle.needs.proofs.reaching.close.Goals as goal

pub loop-through-init : goal.loop-through-init
loop-through-init c = record { square = c.requires; closed = closed_start c.args.rows.now.items }

pub loop-through-preserved : goal.loop-through-preserved
loop-through-preserved c =
    let v = c.loop-through.invariant in
    record {
      square = subst (λ n. IsSquare n c.pass.new.rows.items) v.square.count c.in_ok-pass.ensures.square;
      closed = closed_step c.loop-through.through c.args.rows.now.items c.loop-through.rows.items c.pass.new.rows.items v.closed c.in_ok-pass.ensures.passed;
    }

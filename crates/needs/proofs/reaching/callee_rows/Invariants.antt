use Rattle.needs.proofs.Closing.{FirstRows}
use Rattle.needs.proofs.reaching.callee_rows.Given as goal

abbrev pub invariant-loop-i : goal.invariant-loop-i
invariant-loop-i l = FirstRows l.needs l.i l.rows.items

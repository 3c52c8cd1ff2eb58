use Rattle.std.proofs.Common.{length}
use Rattle.needs.specs.Reaching.{IsSquare, IsClosedBy}
use Rattle.needs.proofs.reaching.close.Given as goal

abbrev pub invariant-loop-through : goal.invariant-loop-through
invariant-loop-through l = record {
  square : IsSquare (length l.initial.rows.items) l.rows.items;
  closed : IsClosedBy l.through l.initial.rows.items l.rows.items;
}

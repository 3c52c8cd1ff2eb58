use Rattle.std.proofs.Common.{◌≡◌}
use Rattle.toml.specs.View.{table_view, members_view}
use Rattle.plan_board.specs.Denied.{named, ranges_of}
use Rattle.plan_board.proofs.Denials.{after}
use Rattle.plan_board.proofs.denied.ranges_of.Given as goal

abbrev pub invariant-loop-word : goal.invariant-loop-word
invariant-loop-word l = ranges_of (named (table_view l.fn.table)) ≡ after l.ranges.items (ranges_of (named (members_view l.word-iterator)))

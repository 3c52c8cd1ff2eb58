use Rattle.std.proofs.Common.{◌≡◌, ◌+◌, ◌≤◌, length}
use Rattle.toml.specs.View.{table_view, members_view}
use Rattle.plan_board.specs.Denied.{named}
use Rattle.plan_board.proofs.denied.has_too_many.Given as goal

abbrev pub invariant-loop-word : goal.invariant-loop-word
invariant-loop-word l = record {
  most : l.room ≤ 64;
  count : length (named (table_view l.fn.table)) + l.room ≡ length (named (members_view l.word-iterator)) + 64;
}

use Rattle.std.proofs.Common.{◌≡◌, map, string_bytes}
use Rattle.std.specs.Prelude.{find, not}
use Rattle.toml.specs.View.{table_view}
use Rattle.plan_board.specs.Extra.{words_of, is_known}
use Rattle.plan_board.proofs.extra.extra_word.Given as goal

abbrev pub invariant-loop-word : goal.invariant-loop-word
invariant-loop-word l = find (λ w. not (is_known l.known w)) (words_of (table_view l.fn.table)) ≡ find (λ w. not (is_known l.known w)) (map string_bytes l.word-iterator)

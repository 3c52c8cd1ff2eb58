use Rattle.std.proofs.Common.{ℕ, List, String, Global, map, not, string_bytes, ap, sym, ◌∙◌}
use Rattle.std.specs.Prelude.{find}
use Rattle.base_names.specs.Names.{is_name}
use Rattle.plan_board.proofs.Words.{words_seen}
use Rattle.plan_board.proofs.extra.unnamed_word.Goals as goal

pub loop-word-init : goal.loop-word-init
loop-word-init c =
    let test = λ (w : List ℕ). not (is_name w) in
    ap (find test) (words_seen c.args.table.now.entries)
    ∙ ap (λ (ks : List (String Global)). find test (map string_bytes ks)) (sym (c.into_iter-word-iterator.ensures.into_iter_gives ∙ c.keys-word-items.ensures.rest))

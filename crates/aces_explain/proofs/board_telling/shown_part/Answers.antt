use Rattle.std.proofs.Common.{take, arith, sym, ap, ◌∙◌}
use Rattle.std.proofs.lemmas.List.{take_all}
use Rattle.aces_explain.proofs.board_telling.shown_part.Goals as goal

pub returns-then-line-le-SHOWN_LIMIT : goal.returns-then-line-le-SHOWN_LIMIT
returns-then-line-le-SHOWN_LIMIT c =
    sym (take_all 120 c.without_return-line.result.now (omega arith)) ∙ ap (take 120) c.without_return-line.ensures

use Rattle.std.proofs.Common.{List, ℕ, ◌++◌, map, ap, ◌∙◌}
use Rattle.std.specs.Borrow.{Bor}
use Rattle.aces_explain.specs.BoardTold.{board_told, told_in}
use Rattle.aces_explain.proofs.board_telling.board_told.Goals as goal

pub returns : goal.returns
unfolding board_told
returns c =
    c.into_bytes.ensures
    ∙ (c.in_ok-put_told.ensures
    ∙ (ap (λ (text : List ℕ). text ++ told_in c.args.name.now (map (λ (line : Bor (List ℕ)). line.now) c.deref.result.now) c.args.fault.now) c.new-told.ensures
    ∙ (ap (λ (lines : List (Bor (List ℕ))). told_in c.args.name.now (map (λ (line : Bor (List ℕ)). line.now) lines) c.args.fault.now) c.deref.ensures.value
    ∙ ap (λ (lines : List (List ℕ)). told_in c.args.name.now lines c.args.fault.now) c.in_ok-lines.ensures)))

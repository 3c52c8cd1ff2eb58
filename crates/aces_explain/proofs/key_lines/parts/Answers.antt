use Rattle.std.proofs.Common.{sym}
use Rattle.aces_explain.proofs.BoardLines.{parted}
use Rattle.aces_explain.proofs.key_lines.parts.Goals as goal

pub returns-in-Some : goal.returns-in-Some
returns-in-Some c =
    parted c.args.path.now c.in-Some.at c.split_at.result.0.now c.split_at.result.1.now c.split_at-in-Some.result.1.now
    (sym c.in-Some.ensures) c.split_at.ensures.front c.split_at.ensures.back c.split_at-in-Some.ensures.back

use Rattle.std.proofs.Common.{sym, refl}
use Rattle.aces_explain.proofs.BoardLines.{ended}
use Rattle.aces_explain.proofs.key_lines.lines.Goals as goal

pub returns : goal.returns
returns c =
    ended c.args.text.now c.loop-end.rest.now c.loop-end.found.items c.push-2.new.self.items c.loop-end.rest
    c.loop-end.invariant (sym c.in_default.ensures) c.in_ok-push-2.ensures.items refl

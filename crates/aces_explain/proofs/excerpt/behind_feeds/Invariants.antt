use Rattle.std.proofs.Common.{◌≡◌, length}
use Rattle.aces_explain.specs.Excerpt.{behind_feeds}
use Rattle.aces_explain.proofs.excerpt.behind_feeds.Given as goal

-- as many line feeds are left as the rest has to lose
abbrev pub invariant-loop-left : goal.invariant-loop-left
invariant-loop-left l = behind_feeds l.left l.rest ≡ behind_feeds l.feeds l.bytes

abbrev pub decreases-loop-left : goal.decreases-loop-left
decreases-loop-left l = length l.rest

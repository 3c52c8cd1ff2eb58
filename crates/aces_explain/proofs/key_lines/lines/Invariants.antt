use Rattle.std.proofs.Common.{◌≡◌, ℕ, List, ◌++◌, map, length}
use Rattle.std.specs.Borrow.{Bor}
use Rattle.aces_explain.specs.KeyLines.{lines_of}
use Rattle.aces_explain.proofs.key_lines.lines.Given as goal

abbrev pub invariant-loop-end : goal.invariant-loop-end
invariant-loop-end l = map (λ (line : Bor (List ℕ)). line.now) l.found.items ++ lines_of l.rest ≡ lines_of l.text

abbrev pub decreases-loop-end : goal.decreases-loop-end
decreases-loop-end l = length l.rest

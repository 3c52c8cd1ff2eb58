use Rattle.std.proofs.Common.{◌≡◌, ◌<◌, ℕ, List, false, map, option_copied}
use Rattle.std.specs.Borrow.{Bor}
use Rattle.aces_explain.specs.KeyLines.{header_over}
use Rattle.aces_explain.proofs.Places.{is_at}
use Rattle.aces_explain.proofs.key_lines.key_line.Given as goal

abbrev pub invariant-loop-number : goal.invariant-loop-number
invariant-loop-number l =
    record {
      before : (k : ℕ) → k < l.number → is_at l.path (map (λ (line : Bor (List ℕ)). line.now) l.lines) k ≡ false;
      header : option_copied l.header ≡ header_over (map (λ (line : Bor (List ℕ)). line.now) l.lines) l.number;
    }

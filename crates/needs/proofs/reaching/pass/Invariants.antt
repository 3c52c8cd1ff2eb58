use Rattle.std.proofs.Common.{◌≡◌, ℕ, ◌<◌, ◌≤◌, ◌||◌, ◌&&◌, length}
use Rattle.needs.specs.Reaching.{IsSquare, leads}
use Rattle.needs.proofs.reaching.pass.Given as goal

abbrev pub invariant-loop-i : goal.invariant-loop-i
invariant-loop-i l = record {
  square : IsSquare (length l.initial.rows.items) l.rows.items;
  done : (f g : ℕ) → f < l.i → leads l.rows.items f g ≡ (leads l.initial.rows.items f g || (leads l.initial.rows.items f l.through && leads l.initial.rows.items l.through g));
  rest : (f g : ℕ) → l.i ≤ f → leads l.rows.items f g ≡ leads l.initial.rows.items f g;
}

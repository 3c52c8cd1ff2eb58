use Rattle.std.proofs.Common.{◌≡◌, ◌↔◌, ℕ, ◌<◌, true, false, length, get_or, take}
use Rattle.need_lists.specs.AnyOf.{AnyOf}
use Rattle.needs.proofs.reaching.Row.with.Given as goal

abbrev pub invariant-loop-i : goal.invariant-loop-i
invariant-loop-i l = record {
  len : length l.flags.items ≡ l.count;
  flags : (g : ℕ) → g < l.count → get_or l.flags.items g false ≡ true ↔ AnyOf (λ (f : ℕ). f ≡ g) (take l.i l.funcs);
}

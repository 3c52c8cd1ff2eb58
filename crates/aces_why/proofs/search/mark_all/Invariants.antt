use Rattle.std.proofs.Common.{◌≡◌, ◌↔◌, ℕ, ◌<◌, ◌≤◌, true, false, length, get_or, take}
use Rattle.std.specs.Prelude.{◌⊎◌, Contains}
use Rattle.aces_why.specs.Marks.{AreMarks}
use Rattle.aces_why.proofs.search.mark_all.Given as goal

abbrev pub invariant-loop-i : goal.invariant-loop-i
invariant-loop-i l = record {
  count : length l.flags.items ≡ length l.initial.flags.items;
  marks : AreMarks l.flags.items l.found.items;
  longer : length l.initial.found.items ≤ length l.found.items;
  kept : (k : ℕ) → k < length l.initial.found.items → get_or l.found.items k 0 ≡ get_or l.initial.found.items k 0;
  flags : (g : ℕ) → get_or l.flags.items g false ≡ true ↔ ((get_or l.initial.flags.items g false ≡ true) ⊎ (Contains (take l.i l.numbers) g × (g < length l.initial.flags.items)));
}

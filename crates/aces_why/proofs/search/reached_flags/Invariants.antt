use Rattle.std.proofs.Common.{◌-◌, length}
use Rattle.aces_why.proofs.Marking.{IsSearched}
use Rattle.aces_why.proofs.search.reached_flags.Given as goal

abbrev pub invariant-loop-handled : goal.invariant-loop-handled
invariant-loop-handled l = IsSearched l.next l.first l.handled l.flags.items l.found.items

abbrev pub decreases-loop-handled : goal.decreases-loop-handled
decreases-loop-handled l = length l.next - l.handled

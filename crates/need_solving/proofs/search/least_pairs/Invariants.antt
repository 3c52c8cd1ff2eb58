use Rattle.std.proofs.Common.{◌≡◌, ◌+◌, ◌-◌, ◌^◌, ◌≤◌, length}
use Rattle.need_solving.proofs.Running.{IsRunning}
use Rattle.need_solving.specs.Searching.{cost}
use Rattle.need_solving.proofs.search.least_pairs.Given as goal

abbrev pub invariant-loop-pair : goal.invariant-loop-pair
invariant-loop-pair g l =
    record {
      running : IsRunning l.system l.state;
      steps : l.steps ≤ l.fn.steps + length l.system.rules.facts.items + cost l.state;
      count : length l.state.pairs.rows ≡ l.nodes;
      objects : l.state.pairs.objects ≡ l.objects;
    }

abbrev pub decreases-loop-pair : goal.decreases-loop-pair
decreases-loop-pair g l = 2 ^ 64 - l.state.next

use Rattle.std.proofs.Common.{◌≡◌, ◌++◌, map, take}
use Rattle.aces_explain.specs.Excerpt.{below}
use Rattle.aces_explain.proofs.excerpt.put_below.Given as goal

-- what stands below the bytes so far
abbrev pub invariant-loop-i : goal.invariant-loop-i
invariant-loop-i l = l.text ≡ l.initial.text ++ map below (take l.i l.bytes)

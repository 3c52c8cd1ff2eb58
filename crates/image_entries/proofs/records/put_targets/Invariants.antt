use Rattle.std.proofs.Common.{◌≡◌, ◌++◌, map, drop}
use Rattle.image_entries.specs.Recorded.{target_in}
use Rattle.image_entries.proofs.records.put_targets.Given as goal

-- what was made and what is left are the whole
abbrev pub invariant-loop-target : goal.invariant-loop-target
invariant-loop-target l =
    l.all.items ++ map (target_in l.making) (drop l.target-index l.targets) ≡ l.initial.all.items ++ map (target_in l.making) l.targets

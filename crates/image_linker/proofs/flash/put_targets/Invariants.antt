use Rattle.std.proofs.Common.{◌≡◌, ◌++◌, drop, flat_map}
use Rattle.monitor_model.specs.Area as areas
use Rattle.image_linker.proofs.flash.put_targets.Given as goal

-- what was made and what is left are the whole
abbrev pub invariant-loop-target : goal.invariant-loop-target
invariant-loop-target l =
    l.words.items ++ flat_map areas.target_words (drop l.target-index l.all) ≡ l.initial.words.items ++ flat_map areas.target_words l.all

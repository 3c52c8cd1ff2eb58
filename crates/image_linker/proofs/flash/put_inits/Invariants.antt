use Rattle.std.proofs.Common.{◌≡◌, ◌++◌, drop, flat_map}
use Rattle.monitor_model.specs.Area as areas
use Rattle.image_linker.proofs.flash.put_inits.Given as goal

-- what was made and what is left are the whole
abbrev pub invariant-loop-init : goal.invariant-loop-init
invariant-loop-init l =
    l.words.items ++ flat_map areas.init_words (drop l.init-index l.all) ≡ l.initial.words.items ++ flat_map areas.init_words l.all

use Rattle.std.proofs.Common.{◌≡◌, ◌++◌, drop, flat_map}
use Rattle.monitor_model.specs.Area as areas
use Rattle.image_linker.proofs.flash.put_compartments.Given as goal

-- what was made and what is left are the whole
abbrev pub invariant-loop-compartment : goal.invariant-loop-compartment
invariant-loop-compartment l =
    l.words.items ++ flat_map areas.compartment_words (drop l.compartment-index l.all) ≡ l.initial.words.items ++ flat_map areas.compartment_words l.all

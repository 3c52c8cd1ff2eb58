use Rattle.std.proofs.Common.{◌≡◌, ◌++◌, drop, flat_map}
use Rattle.monitor_model.specs.Area as areas
use Rattle.image_linker.proofs.flash.put_compartment.Given as goal

-- what was made and what is left are the whole
abbrev pub invariant-loop-slot : goal.invariant-loop-slot
invariant-loop-slot l =
    l.words.items ++ flat_map areas.region_words (drop l.slot-index l.compartment.slots) ≡ (l.fn.words.items ++ areas.region_words l.compartment.code) ++ flat_map areas.region_words l.compartment.slots

use Rattle.std.proofs.Common.{◌≡◌, ◌++◌, map, drop}
use Rattle.plan_model.specs.Slots as slots
use Rattle.image_blocks.specs.Uses.{use_of}
use Rattle.image_blocks.proofs.slots.put_covers.Given as goal

-- what was made and what is left are the whole
abbrev pub invariant-loop-cover : goal.invariant-loop-cover
invariant-loop-cover l =
    map use_of l.uses.items ++ map slots.cover_slot (drop l.cover-index l.covers) ≡ map use_of l.initial.uses.items ++ map slots.cover_slot l.covers

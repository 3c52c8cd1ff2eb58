-- Beyond the program's claim: only laws, proofs and functions inside the tool cite this file.
-- What a slot is for, as the code has it and as the definition has it.
use Rattle.std.specs.Prelude.{ℕ, ◌+◌, ◌-◌, List, map, drop}
use Rattle.machine_protection.specs.declared.region.Region.{Region}
use Rattle.plan_model.specs.Slots as slots
use Rattle.image_blocks.specs.declared.slots.SlotUse.{SlotUse}

abbrev pub use_of : SlotUse → slots.SlotUse
use_of u = record { base = u.base; size = u.size; srd = u.srd; rights = u.rights }

-- of so many slots those from this one on, where the first k are made
abbrev pub slots_left : (k count : ℕ) → List SlotUse → List Region
slots_left k count us = slots.slots_from (4 + k) (count - k) (map use_of (drop k us))

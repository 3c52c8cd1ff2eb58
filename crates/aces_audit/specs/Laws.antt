-- Beyond the program's claim: only laws, proofs and functions inside the tool cite this file.
-- That the line of a slot says what the slot is: the statement of a law.
use Rattle.std.specs.Prelude.{◌≡◌, ℕ, ◌⊎◌, List, [], true, codes}
use Rattle.machine_devices.specs.declared.image.Image.{Image}
use Rattle.machine_devices.specs.declared.image.Window.{Window}
use Rattle.machine_protection.specs.declared.region.Region.{Region}
use Rattle.monitor_model.specs.declared.tables.Tables.{Tables}
use Rattle.monitor_model.specs.RegionChecks.{is_slot, is_free, is_data, is_read_only, is_cover}
use Rattle.aces_audit.specs.SlotLines.{slot_word, slot_line, used_line}

-- a slot that is not free: it has a line, with this word
pub record IsUsed (ws : List Window) (n : ℕ) (g : Region) (word : List ℕ) : Type 0 where
  pub line : slot_line ws n g ≡ used_line ws n g
  pub says : slot_word g ≡ word

-- a slot of a sound image is free and has no line, or its line has the word of what it is
abbrev pub SlotsAreTold : Type 0
SlotsAreTold =
    (i : Image) (t : Tables) (ws : List Window) (n : ℕ) (g : Region) → is_slot i t n g ≡ true
    → ((is_free n g ≡ true) × (slot_line ws n g ≡ []))
    ⊎ (((is_data i t n g ≡ true) × IsUsed ws n g (codes " data"))
    ⊎ (((is_read_only i t n g ≡ true) × IsUsed ws n g (codes " read"))
    ⊎ ((is_cover n g ≡ true) × IsUsed ws n g (codes " periph"))))

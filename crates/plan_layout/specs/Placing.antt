-- What `place` answers where there is memory enough, and what its parts do.
use Rattle.std.specs.Prelude.{◌≡◌, ◌<◌, ◌≤◌, length, map, Result, Ok, Err, if◌then◌else◌, nat_lt}
use Rattle.ir_model.specs.Resolved.{Program}
use Rattle.plan_model.specs.declared.graph.Final.{Final}
use Rattle.plan_model.specs.declared.plan.Board.{Board}
use Rattle.plan_model.specs.declared.plan.Sizes.{Sizes}
use Rattle.plan_model.specs.declared.plan.Plan.{Plan}
use Rattle.plan_model.specs.Lists.{numbers_below}
use Rattle.plan_model.specs.FlashPlacement.{tables_spot, code_spot, flash_needed, flash_named}
use Rattle.plan_model.specs.RamBlocks.{ForStack, ForMonitor, ForRegion, ForUnwritten}
use Rattle.plan_model.specs.RamPlacement.{ram_of, ram_needed, ram_named, spot_for}
use Rattle.plan_model.specs.Placement.{plan_of, placed_for}
use Rattle.plan_layout.specs.declared.refusal.Memory.TheVariants as memory
use Rattle.plan_layout.specs.declared.refusal.PlaceRefusal.{PlaceRefusal}
use Rattle.plan_layout.specs.declared.refusal.PlaceRefusal.TheVariants.{NoMemory, Room}
use Rattle.plan_layout.specs.declared.flash.FlashPlan.{FlashPlan}
use Rattle.plan_layout.specs.declared.place.RamPlan.{RamPlan}

-- the refusal where flash is too small
abbrev pub flash_refusal : Sizes → Board → PlaceRefusal
flash_refusal s b = Room (record { memory = memory.Flash; compartment = flash_named s; needed = flash_needed s; available = b.flash_size })

-- the refusal where RAM is too small
abbrev pub ram_refusal : Program → Final → Board → PlaceRefusal
ram_refusal p f b = Room (record { memory = memory.Ram; compartment = ram_named p f; needed = ram_needed p f b; available = b.ram_size })

-- a refusal where a sum passes a memory's size, flash first; else the plan
unfoldable pub placed : Program → Final → Sizes → Board → Result Plan PlaceRefusal
placed p f s b =
    if nat_lt b.flash_size (flash_needed s) then Err (flash_refusal s b)
    else (if nat_lt b.ram_size (ram_needed p f b) then Err (ram_refusal p f b) else Ok (plan_of p f s b))

-- a refusal for want of memory says nothing of the blocks
abbrev pub IsPlaceRefusal : Program → Final → Sizes → Board → PlaceRefusal → Type 0
IsPlaceRefusal p f s b NoMemory = Unit {0}
IsPlaceRefusal p f s b (Room lack) = placed p f s b ≡ Err (Room lack)

-- ---- flash alone

pub record IsFlash (s : Sizes) (b : Board) (l : FlashPlan) : Type 0 where
  pub fits : flash_needed s ≤ b.flash_size
  pub tables : l.tables ≡ tables_spot b.flash_base s
  pub code : l.code ≡ map (code_spot b.flash_base s) (numbers_below (length s.code))

abbrev pub IsFlashRefusal : Sizes → Board → PlaceRefusal → Type 0
IsFlashRefusal s b NoMemory = Unit {0}
IsFlashRefusal s b (Room lack) = (b.flash_size < flash_needed s) × (Room lack ≡ flash_refusal s b)

-- ---- RAM alone

pub record IsRam (p : Program) (f : Final) (b : Board) (l : RamPlan) : Type 0 where
  pub fits : ram_needed p f b ≤ b.ram_size
  pub stack : l.stack ≡ placed_for (ram_of p f b) ForStack
  pub monitor : l.monitor ≡ placed_for (ram_of p f b) ForMonitor
  pub regions : l.regions ≡ map (λ r. placed_for (ram_of p f b) (ForRegion r)) (numbers_below (length f.regions))
  pub unwritten : l.unwritten ≡ spot_for (ram_of p f b) ForUnwritten

abbrev pub IsRamRefusal : Program → Final → Board → PlaceRefusal → Type 0
IsRamRefusal p f b NoMemory = Unit {0}
IsRamRefusal p f b (Room lack) = (b.ram_size < ram_needed p f b) × (Room lack ≡ ram_refusal p f b)

-- The words of the protection unit's regions while a compartment runs: number 2, and those from number 4 on; and its masks.
use Rattle.std.specs.Prelude.{ℕ, zero, suc, ◌+◌, ◌^◌, List, [], ◌∷◌, ◌++◌, map, get_or, if◌then◌else◌, nat_lt}
use Rattle.machine_protection.specs.declared.region.Region.{Region}
use Rattle.machine_protection.specs.declared.words.Rights.{Rights}
use Rattle.machine_protection.specs.declared.words.Rights.TheVariants.{Background, Code, Ram, Device}
use Rattle.machine_protection.specs.RegionWords.{region_of}
use Rattle.ir_model.specs.Resolved.{Program}
use Rattle.plan_model.specs.declared.graph.Cover.{Cover}
use Rattle.plan_model.specs.declared.graph.Final.{Final}
use Rattle.plan_model.specs.declared.graph.DataRegion as data_region
use Rattle.plan_model.specs.declared.plan.Spot.{Spot}
use Rattle.plan_model.specs.declared.plan.Plan.{Plan}
use Rattle.plan_model.specs.Lists.{has}
use Rattle.plan_model.specs.Regions.{region_at, regions_used}
use Rattle.plan_model.specs.Blocks.{region_bytes, subregions_out}
use Rattle.plan_model.specs.Placement.{region_spot, compartment_spot}

-- ---- what the slots are for

-- a block, which of its eighths are taken out, and who may do what there
pub record SlotUse : Type 0 where
  pub base : ℕ
  pub size : ℕ
  pub srd : ℕ
  pub rights : Rights

-- a writer of a region may store in it and load from it, and another user may only load
abbrev pub data_rights : data_region.DataRegion → (compartment : ℕ) → Rights
data_rights r c = if has r.writers c then Ram else Background

-- the slot of a data region
abbrev pub data_slot : Program → Final → Plan → (compartment region : ℕ) → SlotUse
data_slot p f l c r =
    let spot : Spot = region_spot l r in
    record {
      base = spot.base;
      size = spot.size;
      srd = subregions_out spot.size (region_bytes p (region_at f.regions r).globals);
      rights = data_rights (region_at f.regions r) c;
    }

-- the slot of a cover
abbrev pub cover_slot : Cover → SlotUse
cover_slot d = record { base = d.base; size = d.size; srd = 0; rights = Device }

-- the compartment's data regions in order, then its covers in order of their bases
abbrev pub slot_uses : Program → Final → Plan → (compartment : ℕ) → List SlotUse
slot_uses p f l c = map (data_slot p f l c) (regions_used f.regions c) ++ map cover_slot (get_or f.covers c [])

-- ---- their words

-- MPU_RBAR with VALID and the number, MPU_RASR 0
abbrev pub free_slot : (number : ℕ) → Region
free_slot n = record { rbar = 2 ^ 4 + n; rasr = 0 }

-- `count` slots, from a number on; those behind the uses are free
abbrev pub slots_from : (number count : ℕ) → List SlotUse → List Region
slots_from n zero us = []
slots_from n (suc k) [] = free_slot n ∷ slots_from (suc n) k []
slots_from n (suc k) (u ∷ us) = region_of n u.base u.size u.srd u.rights ∷ slots_from (suc n) k us

-- the regions from number 4 on
unfoldable pub slot_regions : Program → Final → Plan → (slots compartment : ℕ) → List Region
slot_regions p f l slots c = slots_from 4 slots (slot_uses p f l c)

-- region 2: the compartment's code
abbrev pub code_region : Plan → (compartment : ℕ) → Region
code_region l c = region_of 2 (compartment_spot l c).base (compartment_spot l c).size 0 Code

-- ---- masks

-- a mask as the tables have it: where there is one compartment alone, nothing is lent, and it is 0
abbrev pub kept_mask : Final → (masks : List ℕ) → (compartment : ℕ) → ℕ
kept_mask f masks c = if nat_lt 1 f.groups.count then get_or masks c 0 else 0

-- the lent locals that the compartment may write
abbrev pub lend_mask : Final → (compartment : ℕ) → ℕ
lend_mask f c = kept_mask f f.masks c

-- those that it may read
abbrev pub read_mask : Final → (compartment : ℕ) → ℕ
read_mask f c = kept_mask f f.reads c

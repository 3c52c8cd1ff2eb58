-- Beyond the program's claim: only laws, proofs and functions inside the tool cite this file.
-- The tables of that firmware, computed.
use Rattle.std.specs.Prelude.{◌≡◌, [], ◌∷◌, true, Some, None}
use Rattle.monitor_model.specs.Records.{number_of_slots, last_with_entry, targets_of, site_at}
use Rattle.plan_model.specs.Blocks.{block_size_for}
use Rattle.monitor_model.specs.Layout.{compartments_at, sites_at, targets_at, lends_at, area_end, tables_size}
use Rattle.monitor_model.specs.Regions.{background, regions_for}
use Rattle.monitor_model.specs.Area.{area, HasTables}
use Rattle.monitor_model.specs.FromFlash.{tables_of}
use Rattle.example_monitor.specs.LentImage.{tables, area_words, image, code}

pub record ComputesTables : Type 0 where
  -- the words, in flash and read back
  pub words : area tables ≡ area_words
  pub has_tables : HasTables image tables
  pub read_back : tables_of code image ≡ tables
  -- where they stand
  pub slots : number_of_slots tables ≡ 4
  pub comps : compartments_at tables ≡ 0x08001020
  pub sites : sites_at tables ≡ 0x080010B0
  pub targets : targets_at tables ≡ 0x080010C8
  pub lends : lends_at tables ≡ 0x080010D8
  pub ends : area_end tables ≡ 0x080010DC
  pub size : tables_size tables ≡ 8192
  pub least_block : block_size_for 1 ≡ 32
  pub exact_block : block_size_for 64 ≡ 64
  pub next_block : block_size_for 65 ≡ 128
  -- a site's target by its entry; of two with one entry the last; none with another
  pub found : last_with_entry 0x080020A1 (targets_of tables (site_at tables 1)) ≡ Some (record { entry = 0x080020A1; compartment = 2 })
  pub last : last_with_entry 1 (record { entry = 1; compartment = 5 } ∷ record { entry = 1; compartment = 6 } ∷ []) ≡ Some (record { entry = 1; compartment = 6 })
  pub none : last_with_entry 0x080020A1 (targets_of tables (site_at tables 0)) ≡ None
  -- the regions of compartment 2 below TOP 0x20000700, where the last of eight subregions of the stack is closed; and those of
  -- compartment 0 with the whole stack
  pub regions : regions_for image tables 2 0x20000700 ≡
      record { rbar = 0; rasr = 0x1206003B }
      ∷ record { rbar = 0x08000000; rasr = 0x06020019 }
      ∷ record { rbar = 0x080020A0; rasr = 0x06020009 }
      ∷ record { rbar = 0x20000000; rasr = 0x13068015 }
      ∷ record { rbar = 0; rasr = 0 } ∷ record { rbar = 0; rasr = 0 } ∷ record { rbar = 0; rasr = 0 } ∷ record { rbar = 0; rasr = 0 } ∷ []
  pub open_regions : regions_for image tables 0 0x20000800 ≡
      record { rbar = 0; rasr = 0x1206003B }
      ∷ record { rbar = 0x08000000; rasr = 0x06020019 }
      ∷ record { rbar = 0x08002000; rasr = 0x0602000D }
      ∷ record { rbar = 0x20000000; rasr = 0x13060015 }
      ∷ record { rbar = 0x40010000; rasr = 0x13010013 }
      ∷ record { rbar = 0; rasr = 0 } ∷ record { rbar = 0; rasr = 0 } ∷ record { rbar = 0; rasr = 0 } ∷ []
  -- region 0 of a closed board: the MiB of flash
  pub closed_background : background (record image { closed = true }) ≡ record { rbar = 0x08000010; rasr = 0x12060027 }

-- Beyond the program's claim: only laws, proofs and functions inside the tool cite this file.
-- Blocks and the words of the regions that hold them.
use Rattle.std.specs.Prelude.{◌≡◌, ℕ, [], ◌∷◌, map}
use Rattle.machine_protection.specs.declared.words.Rights.TheVariants.{Ram, Stack}
use Rattle.machine_protection.specs.RegionWords.{region_of}
use Rattle.plan_model.specs.Blocks.{block_size_for, subregions_out, region_bytes, offset_in_region}
use Rattle.plan_model.specs.Slots.{cover_slot, slots_from}
use Rattle.example_plan.specs.Written.{global, data_of, cover, words}

-- MPU_RASR of a region's block for so many bytes
abbrev pub attributes : (bytes : ℕ) → ℕ
attributes n = (region_of 4 0x20000000 (block_size_for n) (subregions_out (block_size_for n) n) Ram).rasr

pub record ComputesWords : Type 0 where
  pub blocks : map block_size_for (0 ∷ 1 ∷ 32 ∷ 33 ∷ 256 ∷ 257 ∷ 600 ∷ 65536 ∷ []) ≡ 32 ∷ 32 ∷ 32 ∷ 64 ∷ 256 ∷ 512 ∷ 1024 ∷ 65536 ∷ []
  pub six_hundred : attributes 600 ≡ 0x1306e013
  pub one : attributes 1 ≡ 0x13060009
  pub whole : attributes 256 ≡ 0x1306000f
  pub just_more : attributes 257 ≡ 0x1306e011
  pub stack : (region_of 3 0x20000000 2048 0 Stack).rasr ≡ 0x13060015
  pub of_a_window : slots_from 4 2 (cover_slot (cover 0x40012000 1024) ∷ []) ≡ words 0x40012014 0x13010013 ∷ words 0x15 0 ∷ []
  -- a byte, a word, a half-word and a byte, each at a multiple of its alignment
  pub bytes : region_bytes (data_of (global 1 1 ∷ global 4 4 ∷ global 2 2 ∷ global 1 1 ∷ []) []) (0 ∷ 1 ∷ 2 ∷ 3 ∷ []) ≡ 11
  pub offset : offset_in_region (data_of (global 1 1 ∷ global 4 4 ∷ global 2 2 ∷ global 1 1 ∷ []) []) (0 ∷ 2 ∷ 3 ∷ []) 2 ≡ 2

-- What `state` prints of a machine: how many steps ran, how they ended, and what the machine then holds.
use Rattle.std.specs.Prelude.{ℕ, ◌%◌, List, [], ◌++◌, flat_map, codes, unwrap_or, if◌then◌else◌, nat_eq}
use Rattle.std.specs.Fmt.{decimal}
use Rattle.machine_lines.specs.Lines.{line_feed, end_line}
use Rattle.plan_model.specs.Lists.{numbers_below}
use Rattle.machine_devices.specs.declared.image.Image.{Image}
use Rattle.machine_protection.specs.declared.region.Region.{Region}
use Rattle.machine_protection.specs.Registers.{Registers}
use Rattle.machine_model.specs.declared.state.End.TheVariants.{Limit}
use Rattle.machine_model.specs.State.{State}
use Rattle.machine_emulator.specs.Reads.{region_words}
use Rattle.aces_inspection.specs.CoreLines.{named_word, core_line, register_line, mode_line, fault_line}
use Rattle.aces_inspection.specs.MemoryLines.{frame_line, block_lines}

-- ---- the run

-- the steps with the one that ended the run, and the end; of a machine that has not ended the steps that were asked for are over
abbrev pub run_lines : (steps : ℕ) → State → List ℕ
run_lines n s = codes "steps " ++ decimal n ++ line_feed ++ end_line (unwrap_or s.ending Limit)

-- ---- the core and memory

unfoldable pub held_lines : Image → State → List ℕ
held_lines i s = core_line s.core ++ register_line s.core ++ mode_line s ++ frame_line i s ++ fault_line s.status ++ block_lines i s

-- ---- the protection unit

-- MPU_CTRL
abbrev pub unit_line : Registers → List ℕ
unit_line m = named_word (codes "unit") m.control ++ line_feed

-- MPU_RBAR and MPU_RASR of a region
abbrev pub enabled_line : (number : ℕ) → Region → List ℕ
enabled_line k g = codes "region " ++ decimal k ++ named_word [] g.rbar ++ named_word [] g.rasr ++ line_feed

-- one that is not enabled has no line
abbrev pub region_line : (number : ℕ) → Region → List ℕ
region_line k g = if nat_eq (g.rasr % 2) 1 then enabled_line k g else []

unfoldable pub region_lines : (count : ℕ) → Registers → List ℕ
region_lines n m = flat_map (λ k. region_line k (region_words k m)) (numbers_below n)

-- ---- all of them

abbrev pub state_lines : Image → (steps : ℕ) → State → List ℕ
state_lines i n s = run_lines n s ++ held_lines i s ++ unit_line s.protection.mpu ++ region_lines i.regions s.protection.mpu

-- Where the words of the monitor's block and of a frame stand.
use Rattle.std.proofs.Common.{◌≡◌, ◌≢◌, ℕ, ◌+◌, ◌%◌, ◌^◌, ◌<◌, inl, inr, Bool, true, false, arith}
use Rattle.std.specs.Prelude.{if◌then◌else◌}
use Rattle.base_ranges.specs.Ranges.{is_inside}
use Rattle.base_ranges.proofs.Decisions.{decides_inside}
use Rattle.machine_devices.specs.declared.image.Image.{Image}
use Rattle.machine_devices.specs.Rules.{ObeysRules, IsMonitor}
use Rattle.machine_model.specs.State.{State}
use Rattle.machine_model.specs.Shape.{StateFits}
use Rattle.aces_inspection.specs.MemoryLines.{IsBlockAt, process_stack}

by_case : (i : Image) → ObeysRules i → i.monitor ≢ 0 → IsMonitor i → IsBlockAt i.monitor
by_case i r h (inl e) = absurd (h e)
by_case i r h (inr m) = record { aligned = omega (arith, m.0); low = omega (arith, m.1.1, r.ram_highest, r.ram_most) }

-- the block of an image that obeys the rules
pub block_place : (i : Image) → ObeysRules i → i.monitor ≢ 0 → IsBlockAt i.monitor
block_place i r h = by_case i r h r.monitor

-- a frame in RAM
pub frame_low : (i : Image) (b : ℕ) → ObeysRules i → is_inside b 32 i.ram_base i.ram_size ≡ true → b + 32 < 2 ^ 32
frame_low i b r h = let p = (decides_inside b 32 i.ram_base i.ram_size).0 h in omega (arith, p.1, r.ram_highest, r.ram_most)

either_aligned : (b : Bool) (x y : ℕ) → x % 4 ≡ 0 → y % 4 ≡ 0 → (if b then x else y) % 4 ≡ 0
either_aligned true x y h k = h
either_aligned false x y h k = k

pub frame_aligned : (i : Image) (s : State) → StateFits i s → process_stack s.core % 4 ≡ 0
frame_aligned i s f = either_aligned s.core.on_psp s.core.sp s.core.other_sp f.core.sp_aligned f.core.other_aligned

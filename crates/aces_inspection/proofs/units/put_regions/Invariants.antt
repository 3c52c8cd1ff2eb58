use Rattle.std.proofs.Common.{◌≡◌, ℕ, ◌++◌, flat_map}
use Rattle.plan_model.specs.Lists.{numbers_below}
use Rattle.machine_emulator.specs.Reads.{region_words}
use Rattle.aces_inspection.specs.StateLines.{region_line}
use Rattle.aces_inspection.proofs.units.put_regions.Given as goal

-- a region that is selected changes no words
abbrev pub invariant-loop-number : goal.invariant-loop-number
invariant-loop-number l = record {
  told : l.text ≡ l.initial.text ++ flat_map (λ k. region_line k (region_words k l.initial.machine.state.protection.mpu)) (numbers_below l.number);
  same : (k : ℕ) → region_words k l.machine.state.protection.mpu ≡ region_words k l.initial.machine.state.protection.mpu;
}

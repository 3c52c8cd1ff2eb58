-- The size that the region of a compartment's code tells.
use Rattle.std.proofs.Common.{◌≡◌, ℕ, ◌^◌, ◌<◌, ◌≤◌, arith}
use Rattle.machine_protection.specs.declared.words.Rights.TheVariants.{Code}
use Rattle.machine_protection.specs.Regions.{size_log}
use Rattle.machine_protection.specs.RegionWords.{region_of}
use Rattle.machine_protection.proofs.Powers.{trailing_zeros-pow as zeros-pow}

pub code_size_log : (base k : ℕ) → 1 ≤ k → k < 32 → size_log (region_of 2 base (2 ^ k) 0 Code) ≡ k
unfolding region_of
code_size_log base k h lt = let e = zeros-pow k lt in omega (arith, e, h, lt)

-- Where branches go.
use Rattle.std.proofs.Common.{◌≡◌, ℕ, ◌+◌, ◌^◌, ◌<◌, arith, w32}
use Rattle.std.specs.Prelude.{ℤ, pos, negsuc, ◌+ℤ◌, FitsSigned}
use Rattle.std.proofs.lemmas.Int.{ints}
use Rattle.base_words.specs.Arithmetic.{moved}
use Rattle.base_words.proofs.Arithmetic.{moved_is}
use Rattle.machine_thumb_asm.specs.Finished.{distance}

-- forward over k bytes
pub skips : (pc k to : ℕ) → pc < 2 ^ 31 → k < 2 ^ 30 → pc + k ≡ to → moved pc (pos k) ≡ to
skips pc k to h l e = let f : FitsSigned w32 (pos k) = record { sfits = omega arith } in moved_is pc to (pos k) (omega arith) f (omega (arith, ints))

-- what leads from one low address to another is a signed word
leap_fits : (z : ℤ) (from to : ℕ) → from < 2 ^ 31 → to < 2 ^ 31 → pos from +ℤ z ≡ pos to → FitsSigned w32 z
leap_fits (pos n) from to h l e = record { sfits = omega (arith, ints) }
leap_fits (negsuc n) from to h l e = record { sfits = omega (arith, ints) }

-- to an address
pub goes_to : (from to : ℕ) → from + 4 < 2 ^ 31 → to < 2 ^ 31 → moved (from + 4) (distance from to) ≡ to
goes_to from to h l =
    let e : pos (from + 4) +ℤ distance from to ≡ pos to = omega (arith, ints) in
    moved_is (from + 4) to (distance from to) (omega arith) (leap_fits (distance from to) (from + 4) to h l e) e

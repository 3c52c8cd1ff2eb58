-- The sizes that an address is scaled by.
use Rattle.std.proofs.Common.{ℕ, ◌<◌, ◌^◌, arith}
use Rattle.std.proofs.lemmas.Bool.Decides.{nat_tests}
use Rattle.code_model.specs.Addresses.{scale_of}

-- the scale of an element fits a register
pub scale_small : (size : ℕ) → scale_of size < 2 ^ 32
scale_small size = search (nat_tests, arith)

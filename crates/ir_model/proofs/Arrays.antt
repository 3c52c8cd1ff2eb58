-- What walks down types go down by.
use Rattle.std.proofs.Common.{ℕ, suc}
use Rattle.ir_model.specs.Types.{PlainType, Array}

-- the arrays round what a type holds
abbrev pub arrays : PlainType → ℕ
arrays (Array n t) = suc (arrays t)
arrays _ = 0

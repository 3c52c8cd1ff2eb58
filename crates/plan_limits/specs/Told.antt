-- A limit that is passed, as it is told.
use Rattle.std.specs.Prelude.{ℕ, ◌-◌, ◌^◌, min}
use Rattle.plan_model.specs.declared.limits.LimitKind.{LimitKind}

-- with a count of 32 bits
abbrev pub in_32_bits : LimitKind × ℕ → LimitKind × ℕ
in_32_bits x = (x.0, min x.1 (2 ^ 32 - 1))

-- Bounds of the constants that the monitor's code takes of the tables; and the leave stub has an encoding.
use Rattle.std.proofs.Common.{ℕ, ◌^◌, ◌<◌, ◌≤◌, refl, arith}
use Rattle.std.proofs.lemmas.Nat.{trailing_le}
use Rattle.machine_thumb.specs.Bytes.{EachInTable}
use Rattle.machine_thumb.proofs.Offsets.{no_offset}
use Rattle.monitor_model.specs.declared.tables.Tables.{Tables}
use Rattle.monitor_model.specs.Records.{eighth as eighth_of}
use Rattle.monitor_program.specs.Constants.{constants_with}
use Rattle.monitor_program.specs.Page.{leave_stub}

pub few_slots : (stub : ℕ) (t : Tables) → (constants_with stub t).slots ≤ 12
few_slots stub t = omega arith

-- the exponent of an eighth of the stack is a word
pub eighth_word : (stub : ℕ) (t : Tables) → (constants_with stub t).eighth < 2 ^ 32
eighth_word stub t = let e = trailing_le 32 (eighth_of t) in omega (arith, e)

pub stub_in : EachInTable leave_stub
stub_in = ((omega arith, omega arith, no_offset, λ e. refl, λ e. absurd (omega (arith, e))), tt)

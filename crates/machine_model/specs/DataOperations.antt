-- Instructions that compute in registers (Armv7-M ARM, A7.7): their result, if there is one, and their flags.
use Rattle.std.specs.Prelude.{ℕ, ◌-◌, ◌^◌, Bool, nat_eq, if◌then◌else◌, bit_and, bit_or, bit_xor}
use Rattle.base_words.specs.Arithmetic.{multiply, bit_clear, shift_left, shift_right, shift_right_signed, rotate_right, shifted_left_carry, shifted_right_carry, shifted_right_signed_carry, rotated_right_carry}
use Rattle.base_words.specs.Flags.{add_with_carry, add_flags, compare_flags, result_flags}
use Rattle.base_words.specs.declared.conditions.Flags.{Flags}
use Rattle.machine_model.specs.declared.state.CoreRegisters.{CoreRegisters}
use Rattle.std.proofs.Math.ListN.{set}
use Rattle.machine_model.specs.declared.answers.Outcome.{Outcome}
use Rattle.machine_model.specs.declared.answers.Outcome.TheVariants.{Gives, Tests}
use Rattle.machine_model.specs.State.{bit_of}

-- the registers after an outcome for the destination, before the next instruction
abbrev pub after_outcome : Outcome → CoreRegisters → (next destination : ℕ) → CoreRegisters
after_outcome (Gives v f) c next d = record c { low = set c.low d v; pc = next; flags = f }
after_outcome (Tests f) c next d = record c { pc = next; flags = f }

-- NOT(x)
abbrev pub inverted : ℕ → ℕ
inverted x = 2 ^ 32 - 1 - x

-- the result sets N and Z
abbrev pub logical : Flags → ℕ → Outcome
logical f v = Gives v (result_flags f v)

-- and a shift the carry too
abbrev pub shifted : Flags → ℕ → Bool → Outcome
shifted f v c = Gives v (record (result_flags f v) { carry = c })

-- AddWithCarry
abbrev pub sum : (x y carry : ℕ) → Outcome
sum x y c = Gives (add_with_carry x y c) (add_flags x y c)

-- LSLS, LSRS, ASRS by an amount: 0 is no shift
abbrev pub shift_by : (op x amount : ℕ) → Flags → Outcome
shift_by op x n f =
    if nat_eq op 0 then shifted f (shift_left x n) (shifted_left_carry x n f.carry)
    else if nat_eq op 1 then shifted f (shift_right x n) (shifted_right_carry x n f.carry)
    else shifted f (shift_right_signed x n) (shifted_right_signed_carry x n f.carry)

-- DecodeImmShift: LSRS and ASRS by a field of 0 are shifts by 32
abbrev pub immediate_amount : (op imm5 : ℕ) → ℕ
immediate_amount op imm5 = if nat_eq op 0 then imm5 else if nat_eq imm5 0 then 32 else imm5

-- ADDS, SUBS
abbrev pub add_or_subtract : (op x y : ℕ) → Outcome
add_or_subtract op x y = if nat_eq op 0 then sum x y 0 else sum x (inverted y) 1

-- MOVS, CMP, ADDS, SUBS with a number
abbrev pub immediate : (op x number : ℕ) → Flags → Outcome
immediate op x n f =
    if nat_eq op 0 then logical f n
    else if nat_eq op 1 then Tests (compare_flags x n)
    else if nat_eq op 2 then sum x n 0
    else sum x (inverted n) 1

-- the sixteen operations on two registers, of which the first is the destination
abbrev pub operation : (op x y : ℕ) → Flags → Outcome
operation op x y f =
    if nat_eq op 0 then logical f (bit_and x y)
    else if nat_eq op 1 then logical f (bit_xor x y)
    else if nat_eq op 2 then shifted f (shift_left x y) (shifted_left_carry x y f.carry)
    else if nat_eq op 3 then shifted f (shift_right x y) (shifted_right_carry x y f.carry)
    else if nat_eq op 4 then shifted f (shift_right_signed x y) (shifted_right_signed_carry x y f.carry)
    else if nat_eq op 5 then sum x y (bit_of f.carry)
    else if nat_eq op 6 then sum x (inverted y) (bit_of f.carry)
    else if nat_eq op 7 then shifted f (rotate_right x y) (rotated_right_carry x y f.carry)
    else if nat_eq op 8 then Tests (result_flags f (bit_and x y))
    else if nat_eq op 9 then sum (inverted y) 0 1
    else if nat_eq op 10 then Tests (compare_flags x y)
    else if nat_eq op 11 then Tests (add_flags x y 0)
    else if nat_eq op 12 then logical f (bit_or x y)
    else if nat_eq op 13 then logical f (multiply x y)
    else if nat_eq op 14 then logical f (bit_clear x y)
    else logical f (inverted y)

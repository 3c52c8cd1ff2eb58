-- What both handlers begin and end with, and the writing of a compartment's regions.
use Rattle.std.specs.Prelude.{ℕ, zero, suc, ◌+◌, ◌/◌, ◌%◌, ◌^◌, Bool, true, false, List, [], ◌∷◌, nat_eq}
use Rattle.base_words.specs.declared.memory.Width.TheVariants.{Word}
use Rattle.machine_protection.specs.declared.TheConstants.{MPU_CTRL, MPU_RBAR}
use Rattle.monitor_steps.specs.declared.steps.PrivilegedOp.TheVariants.{Add, Sub, And, Shl, Shr}
use Rattle.monitor_steps.specs.declared.steps.PrivilegedCond.{PrivilegedCond}
use Rattle.monitor_steps.specs.declared.steps.PrivilegedCond.TheVariants.{Eq, Ule}
use Rattle.monitor_steps.specs.Steps.{PrivilegedSteps, End, Const, Load, Store, Alu, ReadPsp, Test, Halt, Return, ◌▸◌}
use Rattle.monitor_model.specs.Offsets.{top, frame_xpsr, record_code, record_slots, region_rbar, region_rasr}
use Rattle.monitor_model.specs.Halts.{halt_stack}
use Rattle.monitor_model.specs.Values.{frame_size, unit_off, unit_on, all_eighths, srd_shift, padded}
use Rattle.monitor_program.specs.Constants.{Constants}

-- ---- words of the lists

-- a comparison that has to hold, and one that must not; else the machine halts with a number
abbrev pub must : PrivilegedCond → (a b code : ℕ) → PrivilegedSteps → PrivilegedSteps
must cond a b code rest = Test cond a b End (Halt code End) rest

abbrev pub must_not : PrivilegedCond → (a b code : ℕ) → PrivilegedSteps → PrivilegedSteps
must_not cond a b code rest = Test cond a b (Halt code End) End rest

-- a value to MPU_CTRL, by two registers
abbrev pub set_control : (address_register value_register value : ℕ) → PrivilegedSteps → PrivilegedSteps
set_control a v value rest = Const a MPU_CTRL ▸ Const v value ▸ Store Word v a 0 ▸ rest

-- a register becomes another one times a number, which is given by its bits, the highest first; it is 0 before
abbrev pub times : (to from : ℕ) → (bits : List Bool) → PrivilegedSteps → PrivilegedSteps
times to from [] rest = rest
times to from (true ∷ bs) rest = Alu Add to to to ▸ Alu Add to to from ▸ times to from bs rest
times to from (false ∷ bs) rest = Alu Add to to to ▸ times to from bs rest

-- so many bits of a number, the highest first
abbrev pub bits_of : (count number : ℕ) → List Bool
bits_of zero n = []
bits_of (suc k) n = nat_eq (n / 2 ^ k % 2) 1 ∷ bits_of k n

-- ---- the ends of a handler

-- PSP into r0, the monitor's block into r1, the stack's base into r2, TOP into r3. PSP is not below the stack's base, and the frame
-- lies below TOP; else halt 4
abbrev pub stack_tests : Constants → PrivilegedSteps → PrivilegedSteps
stack_tests c rest =
    ReadPsp 0
    ▸ Const 1 c.block
    ▸ Const 2 c.stack
    ▸ must Ule 2 0 halt_stack
    ▸ Load Word 3 1 top
    ▸ must Ule 0 3 halt_stack
    ▸ Alu Sub 4 3 0
    ▸ Const 5 frame_size
    ▸ must Ule 5 4 halt_stack
    ▸ rest

-- the frame's xPSR tells of no padding; else halt 4
abbrev pub status_test : PrivilegedSteps → PrivilegedSteps
status_test rest =
    Load Word 4 0 frame_xpsr
    ▸ Const 5 padded
    ▸ Alu And 4 4 5
    ▸ Const 5 0
    ▸ must Eq 4 5 halt_stack
    ▸ rest

-- the protection unit is off until the handler ends, so that it may write regions; then the tests of the frame
abbrev pub opened : Constants → PrivilegedSteps → PrivilegedSteps
opened c rest = set_control 6 7 unit_off ▸ stack_tests c ▸ status_test ▸ rest

-- the unit is on again, with the background for privileged code; the exception return
abbrev pub closed_up : PrivilegedSteps
closed_up = set_control 6 7 unit_on ▸ Return End

-- ---- the regions of a compartment

-- the address of the record of compartment r5 into r6, by r7: (s + 2) * r5 * 8 behind the first
abbrev pub record_of : Constants → PrivilegedSteps → PrivilegedSteps
record_of c rest =
    Const 6 0
    ▸ times 6 5 (bits_of 4 (c.slots + 2))
    ▸ Const 7 3
    ▸ Alu Shl 6 6 7
    ▸ Const 7 c.compartments_at
    ▸ Alu Add 6 6 7
    ▸ rest

-- one region, whose words stand from a word of the record at r6 on, by r7; r0 points to MPU_RBAR
abbrev pub region : (from : ℕ) → PrivilegedSteps → PrivilegedSteps
region from rest =
    Load Word 7 6 from
    ▸ Store Word 7 0 region_rbar
    ▸ Load Word 7 6 (from + region_rasr)
    ▸ Store Word 7 0 region_rasr
    ▸ rest

-- so many regions, one's words behind the other's
abbrev pub regions : (count from : ℕ) → PrivilegedSteps → PrivilegedSteps
regions zero from rest = rest
regions (suc n) from rest = region from ▸ regions n (from + 2) rest

-- SRD of region 3 for TOP in r3 into r2, by r7: of the stack's eighths those at or above TOP are taken out. It is 0xFF shifted to
-- the left by the number of eighths below TOP, in eight bits
abbrev pub closed_eighths : Constants → PrivilegedSteps → PrivilegedSteps
closed_eighths c rest =
    Const 2 c.stack
    ▸ Alu Sub 7 3 2
    ▸ Const 2 c.eighth
    ▸ Alu Shr 7 7 2
    ▸ Const 2 all_eighths
    ▸ Alu Shl 2 2 7
    ▸ Const 7 all_eighths
    ▸ Alu And 2 2 7
    ▸ rest

-- region 3 for TOP in r3, by r2 and r7
abbrev pub stack_region : Constants → PrivilegedSteps → PrivilegedSteps
stack_region c rest =
    closed_eighths c
    ▸ Const 7 srd_shift
    ▸ Alu Shl 2 2 7
    ▸ Const 7 c.stack_region.rasr
    ▸ Alu Add 2 2 7
    ▸ Const 7 c.stack_region.rbar
    ▸ Store Word 7 0 region_rbar
    ▸ Store Word 2 0 region_rasr
    ▸ rest

-- regions 2, 3 and the slots of compartment r5; r3 has TOP
abbrev pub tables_of : Constants → PrivilegedSteps → PrivilegedSteps
tables_of c rest =
    record_of c
    ▸ Const 0 MPU_RBAR
    ▸ region record_code
    ▸ stack_region c
    ▸ regions c.slots record_slots
    ▸ rest

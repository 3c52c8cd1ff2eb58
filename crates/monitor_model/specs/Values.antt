-- Sizes, limits and values of system registers that the lists hold, whatever the tables.
use Rattle.std.specs.Prelude.{ℕ, ◌^◌}

-- ---- bytes of a stacked frame, of a loan, of a target's record, and of the record of a range that start-up fills

abbrev pub frame_size : ℕ
frame_size = 32

abbrev pub loan_size : ℕ
loan_size = 12

abbrev pub target_size : ℕ
target_size = 8

abbrev pub init_size : ℕ
init_size = 12

-- ---- so many loans live, and so many targets has a site, at most

abbrev pub most_loans : ℕ
most_loans = 32

abbrev pub most_targets : ℕ
most_targets = 64

-- no compartment has this number
abbrev pub no_compartment : ℕ
no_compartment = 0xFFFFFFFF

-- ---- the protection unit (B3.5)

-- MPU_CTRL with the unit off; and with it on and the background for privileged code: ENABLE and PRIVDEFENA
abbrev pub unit_off : ℕ
unit_off = 0

abbrev pub unit_on : ℕ
unit_on = 5

-- SRD with all eighths taken out, and how far to the left it stands in MPU_RASR
abbrev pub all_eighths : ℕ
all_eighths = 0xFF

abbrev pub srd_shift : ℕ
srd_shift = 8

-- ---- other registers of the processor

-- of a stacked xPSR the bit that tells of padding (B1.5.7); a thread's xPSR, the T bit alone (B1.4.2)
abbrev pub padded : ℕ
padded = 2 ^ 9

abbrev pub thread_xpsr : ℕ
thread_xpsr = 0x01000000

-- CONTROL of a thread: unprivileged, on PSP (B1.4.4)
abbrev pub unprivileged : ℕ
unprivileged = 3

-- CFSR.DACCVIOL and CFSR.MMARVALID: a refused data access whose address is known (B3.2.15)
abbrev pub refused_access : ℕ
refused_access = 0x82

-- CCR.STKALIGN and CCR.UNALIGN_TRP (B3.2.8)
abbrev pub traps_on : ℕ
traps_on = 0x208

-- SHCSR.MEMFAULTENA (B3.2.13)
abbrev pub faults_on : ℕ
faults_on = 0x10000

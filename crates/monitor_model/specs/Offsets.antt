-- Places of words, counted in words: in the monitor's block, in a stacked frame, and in the records of the tables.
use Rattle.std.specs.Prelude.{ℕ, ◌+◌, ◌*◌}

-- ---- the monitor's block in RAM

-- of the running compartment: its number; the address behind the stack that it may use; how many entries are saved; how many
-- loans are live; and how many were, when it was entered
abbrev pub cur : ℕ
cur = 0

abbrev pub top : ℕ
top = 1

abbrev pub depth : ℕ
depth = 2

abbrev pub loans : ℕ
loans = 3

abbrev pub mark : ℕ
mark = 4

-- the first of eight saved entries, each of four words: PSP, CUR, TOP and MARK of the caller
abbrev pub saved_psp : ℕ
saved_psp = 8

abbrev pub saved_cur : ℕ
saved_cur = 9

abbrev pub saved_top : ℕ
saved_top = 10

abbrev pub saved_mark : ℕ
saved_mark = 11

-- the first of thirty-two loans, each of three words, is this many bytes behind the block's beginning
abbrev pub loans_offset : ℕ
loans_offset = 160

abbrev pub loan_from : ℕ
loan_from = 0

abbrev pub loan_end : ℕ
loan_end = 1

abbrev pub loan_number : ℕ
loan_number = 2

-- ---- a stacked frame (Armv7-M ARM, B1.5.6)

abbrev pub frame_r0 : ℕ
frame_r0 = 0

abbrev pub frame_r1 : ℕ
frame_r1 = 1

abbrev pub frame_r2 : ℕ
frame_r2 = 2

abbrev pub frame_r3 : ℕ
frame_r3 = 3

abbrev pub frame_r12 : ℕ
frame_r12 = 4

abbrev pub frame_lr : ℕ
frame_lr = 5

abbrev pub frame_return : ℕ
frame_return = 6

abbrev pub frame_xpsr : ℕ
frame_xpsr = 7

-- ---- records

-- of a compartment: MPU_RBAR and MPU_RASR of region 2, those of each slot, the mask and the read mask
abbrev pub record_code : ℕ
record_code = 0

abbrev pub record_slots : ℕ
record_slots = 2

abbrev pub record_mask : (slots : ℕ) → ℕ
record_mask slots = 2 * slots + 2

abbrev pub record_reads : (slots : ℕ) → ℕ
record_reads slots = 2 * slots + 3

-- of a crossing site
abbrev pub site_return : ℕ
site_return = 0

abbrev pub site_first : ℕ
site_first = 1

abbrev pub site_count : ℕ
site_count = 2

-- of a target
abbrev pub target_entry : ℕ
target_entry = 0

abbrev pub target_compartment : ℕ
target_compartment = 1

-- of a range that start-up fills
abbrev pub init_at : ℕ
init_at = 0

abbrev pub init_end : ℕ
init_end = 1

abbrev pub init_from : ℕ
init_from = 2

-- of a region, in a record and from MPU_RBAR on
abbrev pub region_rbar : ℕ
region_rbar = 0

abbrev pub region_rasr : ℕ
region_rasr = 1

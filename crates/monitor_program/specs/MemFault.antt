-- The handler of MemManage: an access by a loan is made for the compartment that asked for it.
use Rattle.std.specs.Prelude.{ℕ, Bool, true, false}
use Rattle.base_words.specs.declared.memory.Width.{Width}
use Rattle.base_words.specs.declared.memory.Width.TheVariants.{Byte, Half, Word}
use Rattle.machine_model.specs.declared.TheConstants.{CFSR}
use Rattle.monitor_steps.specs.declared.steps.PrivilegedOp.TheVariants.{Add, Sub, And, Shr}
use Rattle.monitor_steps.specs.declared.steps.PrivilegedCond.TheVariants.{Eq, Ule}
use Rattle.monitor_steps.specs.Steps.{PrivilegedSteps, End, Const, Copy, Load, Store, Alu, ReadPsp, Test, Repeat, Halt, ◌▸◌}
use Rattle.monitor_model.specs.Offsets.{cur, loans, loan_from, loan_end, loan_number, frame_r0, frame_r1, frame_return, record_mask, record_reads}
use Rattle.monitor_model.specs.Halts.{halt_store, halt_fault, halt_load}
use Rattle.monitor_model.specs.Values.{loan_size, most_loans, refused_access}
use Rattle.monitor_program.specs.Constants.{Constants}
use Rattle.monitor_program.specs.Opening.{must, opened, closed_up, record_of}

-- a width into r6, by r5, where the halfword in r4 is this one, and else another list; then the rest
abbrev pub on_half : (half width : ℕ) → (other : PrivilegedSteps) → PrivilegedSteps → PrivilegedSteps
on_half half width other rest = Const 5 half ▸ Test Eq 4 5 (Const 6 width ▸ End) other ▸ rest

-- of one of three instructions; with another halfword the other list
abbrev pub widths : (of_word of_byte of_half : ℕ) → (other : PrivilegedSteps) → PrivilegedSteps → PrivilegedSteps
widths w b h other rest = on_half w 4 (on_half b 1 (on_half h 2 other End) End) rest

-- ---- the loans

-- the mask in r5 has the bit of the loan's number: r7 becomes 1
abbrev pub has_bit : PrivilegedSteps
has_bit =
    Load Word 0 2 loan_number
    ▸ Copy 1 5
    ▸ Alu Shr 1 1 0
    ▸ Const 0 1
    ▸ Alu And 1 1 0
    ▸ Test Eq 1 0 (Const 7 1 ▸ End) End
    ▸ End

-- what is left of the loan from the address r4 on, which r0 has, is at least the width in r6. No sum wraps
abbrev pub has_width : PrivilegedSteps
has_width = Alu Sub 0 0 4 ▸ Test Ule 6 0 has_bit End ▸ End

-- the address is not behind the loan's end
abbrev pub has_end : PrivilegedSteps
has_end = Load Word 0 2 loan_end ▸ Test Ule 4 0 has_width End ▸ End

-- one loan, at r2: where it begins at or below the address, and all that holds, r7 becomes 1; then the next loan
abbrev pub loan_turn : PrivilegedSteps
loan_turn =
    Load Word 0 2 loan_from
    ▸ Test Ule 0 4 has_end End
    ▸ Const 0 loan_size
    ▸ Alu Add 2 2 0
    ▸ End

-- the mask that stands at this word of CUR's record into r5, the width in r6, the stacked r1 into r4; the first loan's address into
-- r2, how many loans live into r3, and 0 into r7
abbrev pub scan_begun : Constants → (mask_at : ℕ) → PrivilegedSteps → PrivilegedSteps
scan_begun c mask_at rest =
    Copy 2 6
    ▸ Load Word 5 1 cur
    ▸ record_of c
    ▸ Load Word 5 6 mask_at
    ▸ Copy 6 2
    ▸ Load Word 4 0 frame_r1
    ▸ Load Word 3 1 loans
    ▸ Const 2 c.loans_at
    ▸ Const 7 0
    ▸ rest

-- some live loan holds the width r6 from the stacked r1 on, and its number is in the mask that stands at this word of CUR's
-- record; else the machine halts with a number. The address is in r4 behind it, the width in r6, PSP in r0
abbrev pub scan : Constants → (mask_at code : ℕ) → PrivilegedSteps → PrivilegedSteps
scan c mask_at code rest =
    scan_begun c mask_at
    ▸ Repeat 3 most_loans loan_turn
    ▸ Const 0 1
    ▸ must Eq 7 0 code
    ▸ ReadPsp 0
    ▸ rest

-- ---- the access

-- one of three lists by the width in r6, by r7
abbrev pub of_width : (of_word of_byte of_half : PrivilegedSteps) → PrivilegedSteps → PrivilegedSteps
of_width w b h rest = Const 7 4 ▸ Test Eq 6 7 w (Const 7 1 ▸ Test Eq 6 7 b h ▸ End) ▸ rest

-- an access of this width: r5 to the address in r4, and from there
abbrev pub one_store : Width → PrivilegedSteps
one_store width = Store width 5 4 0 End

abbrev pub one_load : Width → PrivilegedSteps
one_load width = Load width 5 4 0 End

-- the same by the width in r6
abbrev pub stored : PrivilegedSteps → PrivilegedSteps
stored = of_width (one_store Word) (one_store Byte) (one_store Half)

abbrev pub loaded : PrivilegedSteps → PrivilegedSteps
loaded = of_width (one_load Word) (one_load Byte) (one_load Half)

-- the compartment goes on behind the instruction; the status of the fault is cleared by its own ones
abbrev pub finished : PrivilegedSteps
finished =
    Load Word 4 0 frame_return
    ▸ Const 5 2
    ▸ Alu Add 4 4 5
    ▸ Store Word 4 0 frame_return
    ▸ Const 4 CFSR
    ▸ Load Word 5 4 0
    ▸ Store Word 5 4 0
    ▸ closed_up

-- the stacked r0 to the stacked r1; without a loan halt 7
abbrev pub stores : Constants → PrivilegedSteps
stores c =
    scan c (record_mask c.slots) halt_store
    ▸ Load Word 5 0 frame_r0
    ▸ stored
    ▸ finished

-- the stacked r0 from the stacked r1; without a loan halt 9
abbrev pub lent_load : Constants → PrivilegedSteps
lent_load c =
    scan c (record_reads c.slots) halt_load
    ▸ loaded
    ▸ Store Word 5 0 frame_r0
    ▸ finished

-- of no store: on an open board halt 8; on a closed one LDR, LDRB and LDRH r0, [r1, #0], of another halfword halt 8
abbrev pub loads : Constants → (closed : Bool) → PrivilegedSteps
loads c false = Halt halt_fault End
loads c true = widths 0x6808 0x7808 0x8808 (Halt halt_fault End) ▸ lent_load c

-- a refused data access whose address is known (CFSR.DACCVIOL and MMARVALID), else halt 8; the halfword at the return address into
-- r4
abbrev pub fault_asked : PrivilegedSteps → PrivilegedSteps
fault_asked rest =
    Const 4 CFSR
    ▸ Load Word 5 4 0
    ▸ Const 6 refused_access
    ▸ Alu And 5 5 6
    ▸ must Eq 5 6 halt_fault
    ▸ Load Word 4 0 frame_return
    ▸ Load Half 4 4 0
    ▸ rest

-- such an access by STR, STRB or STRH r0, [r1, #0]
abbrev pub memfault : Constants → PrivilegedSteps
memfault c = opened c ▸ fault_asked ▸ widths 0x6008 0x7008 0x8008 (loads c c.closed) ▸ stores c

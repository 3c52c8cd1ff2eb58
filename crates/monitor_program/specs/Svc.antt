-- The handler of SVC: enter, leave, lend and unlend.
use Rattle.std.specs.Prelude.{ℕ}
use Rattle.base_words.specs.declared.memory.Width.TheVariants.{Byte, Half, Word}
use Rattle.monitor_steps.specs.declared.steps.PrivilegedOp.TheVariants.{Add, Sub, And, Shl, Shr}
use Rattle.monitor_steps.specs.declared.steps.PrivilegedCond.TheVariants.{Eq, Ult, Ule}
use Rattle.monitor_steps.specs.Steps.{PrivilegedSteps, End, Const, Copy, Load, Store, Alu, WritePsp, Test, Repeat, Halt, ◌▸◌}
use Rattle.monitor_model.specs.Offsets.{cur, top, depth, loans, mark, saved_psp, saved_cur, saved_top, saved_mark, loan_from, loan_end, loan_number, frame_r0, frame_r1, frame_r2, frame_r3, frame_r12, frame_lr, frame_return, frame_xpsr, site_return, site_first, site_count, target_entry, target_compartment}
use Rattle.monitor_model.specs.Halts.{halt_end, halt_number, halt_site, halt_target, halt_limit, halt_loan}
use Rattle.monitor_model.specs.Values.{frame_size, target_size, most_loans, most_targets, no_compartment, thread_xpsr}
use Rattle.monitor_program.specs.Constants.{Constants}
use Rattle.monitor_program.specs.Opening.{must, must_not, opened, closed_up, tables_of}

-- ---- 0, enter. Behind `opened` r0 is PSP, r1 the block, r2 the stack's base; r4 is the return address

-- the halfword at the return address is the number of a site, else halt 2; the address of its record into r6, by r7: 12 bytes times
-- the number behind the first
abbrev pub site_record : Constants → PrivilegedSteps → PrivilegedSteps
site_record c rest =
    Load Half 5 4 0
    ▸ Const 6 c.sites
    ▸ must Ult 5 6 halt_site
    ▸ Const 6 2
    ▸ Copy 7 5
    ▸ Alu Shl 7 7 6
    ▸ Alu Add 6 7 7
    ▸ Alu Add 6 6 7
    ▸ Const 7 c.sites_at
    ▸ Alu Add 6 6 7
    ▸ rest

-- the record of that site has this return address; else halt 2. The site's first target into r5, their number into r6
abbrev pub site : Constants → PrivilegedSteps → PrivilegedSteps
site c rest =
    site_record c
    ▸ Load Word 7 6 site_return
    ▸ must Eq 7 4 halt_site
    ▸ Load Word 5 6 site_first
    ▸ Load Word 6 6 site_count
    ▸ rest

-- the compartment of the target at r7 into r5, where that has the entry that is asked for; then the next target
abbrev pub target_turn : PrivilegedSteps
target_turn =
    Load Word 3 7 target_entry
    ▸ Test Eq 3 4 (Load Word 5 7 target_compartment ▸ End) End
    ▸ Const 3 target_size
    ▸ Alu Add 7 7 3
    ▸ End

-- the entry that is asked for, the stacked r12, into r4; the address of the record of target r5 into r7; and no compartment into r5
abbrev pub target_asked : Constants → PrivilegedSteps → PrivilegedSteps
target_asked c rest =
    Load Word 4 0 frame_r12
    ▸ Const 7 3
    ▸ Alu Shl 5 5 7
    ▸ Const 7 c.targets_at
    ▸ Alu Add 7 7 5
    ▸ Const 5 no_compartment
    ▸ rest

-- it is the entry, with bit 0 set, of a target of the site; else halt 3. The compartment of the last such target into r5
abbrev pub target : Constants → PrivilegedSteps → PrivilegedSteps
target c rest =
    target_asked c
    ▸ Repeat 6 most_targets target_turn
    ▸ Const 3 no_compartment
    ▸ must_not Eq 5 3 halt_target
    ▸ rest

-- the new TOP into r3: PSP, rounded down to whole eighths of the stack. It is above the stack's base, else halt 5
abbrev pub rounded : Constants → PrivilegedSteps → PrivilegedSteps
rounded c rest =
    Alu Sub 3 0 2
    ▸ Const 6 c.eighth
    ▸ Alu Shr 3 3 6
    ▸ Alu Shl 3 3 6
    ▸ Const 6 0
    ▸ must_not Eq 3 6 halt_limit
    ▸ Alu Add 3 3 2
    ▸ rest

-- the caller goes on behind the halfword
abbrev pub raise : PrivilegedSteps → PrivilegedSteps
raise rest =
    Load Word 4 0 frame_return
    ▸ Const 6 2
    ▸ Alu Add 4 4 6
    ▸ Store Word 4 0 frame_return
    ▸ rest

-- PSP, CUR, TOP and MARK into the saved entry numbered DEPTH, which stays in r4
abbrev pub save : PrivilegedSteps → PrivilegedSteps
save rest =
    Load Word 4 1 depth
    ▸ Const 6 4
    ▸ Copy 7 4
    ▸ Alu Shl 7 7 6
    ▸ Alu Add 6 7 1
    ▸ Store Word 0 6 saved_psp
    ▸ Load Word 7 1 cur
    ▸ Store Word 7 6 saved_cur
    ▸ Load Word 7 1 top
    ▸ Store Word 7 6 saved_top
    ▸ Load Word 7 1 mark
    ▸ Store Word 7 6 saved_mark
    ▸ rest

-- the address of the callee's frame, which is below the new TOP, into r6; the arguments in r0 to r3
abbrev pub frame_arguments : PrivilegedSteps → PrivilegedSteps
frame_arguments rest =
    Const 6 frame_size
    ▸ Alu Sub 6 3 6
    ▸ Load Word 7 0 frame_r0
    ▸ Store Word 7 6 frame_r0
    ▸ Load Word 7 0 frame_r1
    ▸ Store Word 7 6 frame_r1
    ▸ Load Word 7 0 frame_r2
    ▸ Store Word 7 6 frame_r2
    ▸ Load Word 7 0 frame_r3
    ▸ Store Word 7 6 frame_r3
    ▸ rest

-- the callee's frame: behind the arguments the leave stub as link, the entry with bit 0 clear as return address, and the xPSR of a
-- thread
abbrev pub frame : Constants → PrivilegedSteps → PrivilegedSteps
frame c rest =
    frame_arguments
    ▸ Const 7 0
    ▸ Store Word 7 6 frame_r12
    ▸ Const 7 c.stub_entry
    ▸ Store Word 7 6 frame_lr
    ▸ Load Word 7 0 frame_r12
    ▸ Const 2 1
    ▸ Alu Sub 7 7 2
    ▸ Store Word 7 6 frame_return
    ▸ Const 7 thread_xpsr
    ▸ Store Word 7 6 frame_xpsr
    ▸ rest

-- one entry more is saved; the callee's compartment, its TOP, the loans that were live before it, and its stack
abbrev pub entered : PrivilegedSteps → PrivilegedSteps
entered rest =
    Const 7 1
    ▸ Alu Add 4 4 7
    ▸ Store Word 4 1 depth
    ▸ Store Word 5 1 cur
    ▸ Store Word 3 1 top
    ▸ Load Word 7 1 loans
    ▸ Store Word 7 1 mark
    ▸ WritePsp 6
    ▸ rest

-- all of it
abbrev pub enter : Constants → PrivilegedSteps
enter c = site c ▸ target c ▸ rounded c ▸ raise ▸ save ▸ frame c ▸ entered ▸ tables_of c ▸ closed_up

-- ---- 1, leave

-- without a saved entry the program is at its end: halt 0. The last one is saved no more, its address goes into r6, by r4, and the
-- loans of the callee end
abbrev pub left : PrivilegedSteps → PrivilegedSteps
left rest =
    Load Word 4 1 depth
    ▸ Const 6 0
    ▸ must_not Eq 4 6 halt_end
    ▸ Const 6 1
    ▸ Alu Sub 4 4 6
    ▸ Store Word 4 1 depth
    ▸ Load Word 7 1 mark
    ▸ Store Word 7 1 loans
    ▸ Const 6 4
    ▸ Alu Shl 4 4 6
    ▸ Alu Add 6 4 1
    ▸ rest

-- CUR, TOP and MARK of the caller; the result in r0 goes to the caller's frame, which is the stack again
abbrev pub restored : PrivilegedSteps → PrivilegedSteps
restored rest =
    Load Word 5 6 saved_cur
    ▸ Store Word 5 1 cur
    ▸ Load Word 3 6 saved_top
    ▸ Store Word 3 1 top
    ▸ Load Word 7 6 saved_mark
    ▸ Store Word 7 1 mark
    ▸ Load Word 4 6 saved_psp
    ▸ Load Word 7 0 frame_r0
    ▸ Store Word 7 4 frame_r0
    ▸ WritePsp 4
    ▸ rest

-- all of it
abbrev pub leave : Constants → PrivilegedSteps
leave c = left ▸ restored ▸ tables_of c ▸ closed_up

-- ---- 2, lend

-- the stacked r0, the address of a local, into r4; the stacked r1, its number, into r5; LOANS into r6. Fewer than 32 loans are live;
-- the number is that of a lendable local; the address is a multiple of 4; else halt 6
abbrev pub lend_number : Constants → PrivilegedSteps → PrivilegedSteps
lend_number c rest =
    Load Word 4 0 frame_r0
    ▸ Load Word 5 0 frame_r1
    ▸ Load Word 6 1 loans
    ▸ Const 7 most_loans
    ▸ must_not Eq 6 7 halt_loan
    ▸ Const 7 c.lends
    ▸ must Ult 5 7 halt_loan
    ▸ Const 7 3
    ▸ Alu And 7 7 4
    ▸ Const 2 0
    ▸ must Eq 7 2 halt_loan
    ▸ rest

-- the size of the local into r2. The local lies between the frame's end and TOP; else halt 6. No sum that is tested wraps: the size is
-- compared with what is left below TOP
abbrev pub lend_place : Constants → PrivilegedSteps → PrivilegedSteps
lend_place c rest =
    Alu Add 2 5 5
    ▸ Alu Add 2 2 2
    ▸ Const 7 c.lends_at
    ▸ Alu Add 2 2 7
    ▸ Load Word 2 2 0
    ▸ Const 7 frame_size
    ▸ Alu Add 7 0 7
    ▸ must Ule 7 4 halt_loan
    ▸ must Ule 4 3 halt_loan
    ▸ Alu Sub 7 3 4
    ▸ must Ule 2 7 halt_loan
    ▸ rest

-- the loan behind those that live, and LOANS with it
abbrev pub lend_entry : Constants → PrivilegedSteps → PrivilegedSteps
lend_entry c rest =
    Alu Add 7 6 6
    ▸ Alu Add 7 7 6
    ▸ Alu Add 7 7 7
    ▸ Alu Add 7 7 7
    ▸ Const 3 c.loans_at
    ▸ Alu Add 7 7 3
    ▸ Store Word 4 7 loan_from
    ▸ Alu Add 2 4 2
    ▸ Store Word 2 7 loan_end
    ▸ Store Word 5 7 loan_number
    ▸ Const 3 1
    ▸ Alu Add 6 6 3
    ▸ Store Word 6 1 loans
    ▸ rest

-- all of it
abbrev pub lend : Constants → PrivilegedSteps
lend c = lend_number c ▸ lend_place c ▸ lend_entry c ▸ closed_up

-- ---- 3, unlend

-- the last loan ends; it is one that the running function made, else halt 6
abbrev pub unlend : PrivilegedSteps
unlend =
    Load Word 4 1 loans
    ▸ Load Word 5 1 mark
    ▸ must_not Eq 4 5 halt_loan
    ▸ Const 5 1
    ▸ Alu Sub 4 4 5
    ▸ Store Word 4 1 loans
    ▸ closed_up

-- ---- the handler

-- a list, which ends the handler, where the number in r5 is this one; else the rest
abbrev pub on_number : (number : ℕ) → (list rest : PrivilegedSteps) → PrivilegedSteps
on_number n list rest = Const 6 n ▸ Test Eq 5 6 list End ▸ rest

-- the number of the SVC, the low byte of the halfword before the return address, into r5; the return address into r4
abbrev pub svc_number : PrivilegedSteps → PrivilegedSteps
svc_number rest =
    Load Word 4 0 frame_return
    ▸ Const 5 2
    ▸ Alu Sub 5 4 5
    ▸ Load Byte 5 5 0
    ▸ rest

-- the list of the number in r5; above 3: halt 1. The lists of fewer steps are asked for first
abbrev pub by_number : Constants → PrivilegedSteps
by_number c = on_number 3 unlend ▸ on_number 2 (lend c) ▸ on_number 0 (enter c) ▸ on_number 1 (leave c) ▸ Halt halt_number ▸ End

-- all of it
abbrev pub svc : Constants → PrivilegedSteps
svc c = opened c ▸ svc_number ▸ by_number c

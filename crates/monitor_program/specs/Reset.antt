-- Start-up: the test of the protection unit, initial words, the monitor's block, the regions of the compartment of `main`, and the
-- branch to it.
use Rattle.std.specs.Prelude.{◌+◌, ◌*◌}
use Rattle.base_words.specs.declared.memory.Width.TheVariants.{Word}
use Rattle.machine_protection.specs.declared.TheConstants.{MPU_TYPE, MPU_RBAR}
use Rattle.machine_model.specs.declared.TheConstants.{CCR, SHCSR}
use Rattle.monitor_steps.specs.declared.steps.PrivilegedOp.TheVariants.{Add, Sub, Shr}
use Rattle.monitor_steps.specs.declared.steps.PrivilegedCond.TheVariants.{Eq}
use Rattle.monitor_steps.specs.Steps.{PrivilegedSteps, End, Const, Copy, Load, Store, Alu, WritePsp, WriteControl, Repeat, Go, ◌▸◌}
use Rattle.monitor_model.specs.Offsets.{cur, top, depth, loans, mark, init_at, init_end, init_from, region_rbar, region_rasr}
use Rattle.monitor_model.specs.Halts.{halt_unit}
use Rattle.monitor_model.specs.Values.{init_size, unit_on, traps_on, faults_on, unprivileged}
use Rattle.monitor_program.specs.Constants.{Constants}
use Rattle.monitor_program.specs.Opening.{must, set_control, tables_of}

-- one word from flash, at r3, to RAM, at r2
abbrev pub word_turn : PrivilegedSteps
word_turn =
    Load Word 6 3 0
    ▸ Store Word 6 2 0
    ▸ Const 6 4
    ▸ Alu Add 2 2 6
    ▸ Alu Add 3 3 6
    ▸ End

-- the words of one range, whose record is at r0; then the next record
abbrev pub init_turn : Constants → PrivilegedSteps
init_turn c =
    Load Word 2 0 init_at
    ▸ Load Word 4 0 init_end
    ▸ Load Word 3 0 init_from
    ▸ Alu Sub 4 4 2
    ▸ Const 6 2
    ▸ Alu Shr 4 4 6
    ▸ Repeat 4 c.words word_turn
    ▸ Const 6 init_size
    ▸ Alu Add 0 0 6
    ▸ End

-- where execution begins: the compartment of `main` into r5 and its entry into r7. They stand first, so that their places in
-- flash are the same in every image
abbrev pub main_words : Constants → PrivilegedSteps → PrivilegedSteps
main_words c rest = Const 5 c.main_compartment ▸ Const 7 c.main ▸ rest

-- the processor has a protection unit, of as many regions as the tables are for: MPU_TYPE has their number, which is 0 where there
-- is no unit, in bits 15 to 8, and 0 in all others (B3.5.5); else halt 10. No other register of the unit is written before
abbrev pub unit_is_there : Constants → PrivilegedSteps → PrivilegedSteps
unit_is_there c rest =
    Const 0 MPU_TYPE
    ▸ Load Word 6 0 0
    ▸ Const 1 (256 * (c.slots + 4))
    ▸ must Eq 6 1 halt_unit
    ▸ rest

-- the ranges that start-up fills
abbrev pub copied : Constants → PrivilegedSteps → PrivilegedSteps
copied c rest = Const 0 c.inits_at ▸ Const 1 c.inits ▸ Repeat 1 c.inits (init_turn c) ▸ rest

-- the compartment of `main` runs, the whole stack is its own, and nothing is saved or lent; the stack's end into r3
abbrev pub first_block : Constants → PrivilegedSteps → PrivilegedSteps
first_block c rest =
    Const 1 c.block
    ▸ Store Word 5 1 cur
    ▸ Const 3 c.stack_end
    ▸ Store Word 3 1 top
    ▸ Const 6 0
    ▸ Store Word 6 1 depth
    ▸ Store Word 6 1 loans
    ▸ Store Word 6 1 mark
    ▸ rest

-- CCR.STKALIGN and CCR.UNALIGN_TRP (B3.2.8); this profile keeps CCR as it is
abbrev pub traps : PrivilegedSteps → PrivilegedSteps
traps rest = Const 0 CCR ▸ Const 6 traps_on ▸ Store Word 6 0 0 ▸ rest

-- regions 0 and 1, which stay; the entry of `main` into r4
abbrev pub first_regions : Constants → PrivilegedSteps → PrivilegedSteps
first_regions c rest =
    Copy 4 7
    ▸ Const 0 MPU_RBAR
    ▸ Const 6 c.background.rbar
    ▸ Store Word 6 0 region_rbar
    ▸ Const 6 c.background.rasr
    ▸ Store Word 6 0 region_rasr
    ▸ Const 6 c.tables.rbar
    ▸ Store Word 6 0 region_rbar
    ▸ Const 6 c.tables.rasr
    ▸ Store Word 6 0 region_rasr
    ▸ rest

-- SHCSR.MEMFAULTENA; the protection unit; PSP at the stack's end; CONTROL of a thread into r6, the leave stub into r5
abbrev pub thread_ready : Constants → PrivilegedSteps → PrivilegedSteps
thread_ready c rest =
    Const 0 SHCSR
    ▸ Const 6 faults_on
    ▸ Store Word 6 0 0
    ▸ set_control 6 7 unit_on
    ▸ WritePsp 3
    ▸ Const 6 unprivileged
    ▸ Const 5 c.stub_entry
    ▸ rest

-- unprivileged on PSP; and to `main`, with the leave stub as link
abbrev pub to_main : PrivilegedSteps
to_main = WriteControl 6 ▸ Go 4 5 ▸ End

-- start-up
abbrev pub reset : Constants → PrivilegedSteps
reset c = main_words c ▸ unit_is_there c ▸ copied c ▸ first_block c ▸ traps ▸ first_regions c ▸ tables_of c ▸ thread_ready c ▸ to_main

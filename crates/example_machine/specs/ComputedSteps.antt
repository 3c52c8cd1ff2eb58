-- Beyond the program's claim: only laws, proofs and functions inside the tool cite this file.
-- Computed examples of instructions. The values are worked out by hand from the manual's A7.7.
use Rattle.std.specs.Prelude.{◌≡◌, ℕ, List, [], ◌∷◌, Bool, true, false, None}
use Rattle.base_words.specs.declared.conditions.Flags.{Flags}
use Rattle.machine_model.specs.declared.state.CoreRegisters.{CoreRegisters}
use Rattle.machine_model.specs.declared.state.End.TheVariants.{Halt}
use Rattle.machine_model.specs.State.{Touched, by_mpu, calm, ends}
use Rattle.machine_model.specs.Step.{turn}
use Rattle.example_machine.specs.Board.{board, core, machine, privileged, zeros, ram_with}

-- one step with protection off and RAM 0 changes these registers into those, and nothing else
abbrev pub Becomes : (code : List ℕ) → (from to : CoreRegisters) → Type 0
Becomes code c d = turn by_mpu (board code) (machine c privileged zeros) ≡ calm (machine d privileged zeros)

abbrev pub four : (address : ℕ) → Touched
four a = record { width = 4; address = a }

-- one step with protection off stores, or loads
abbrev pub Storing : (code : List ℕ) → (from to : CoreRegisters) → (ram : List ℕ) → List Touched → Type 0
Storing code c d ram xs =
    turn by_mpu (board code) (machine c privileged zeros) ≡ record { to = machine d privileged ram; stores = xs; loads = []; event = None }

abbrev pub Loading : (code : List ℕ) → (from to : CoreRegisters) → (ram : List ℕ) → List Touched → Type 0
Loading code c d ram xs =
    turn by_mpu (board code) (machine c privileged ram) ≡ record { to = machine d privileged ram; stores = []; loads = xs; event = None }

abbrev pub flags : (n z c v : Bool) → Flags
flags n z c v = record { negative = n; is_zero = z; carry = c; overflow = v }

pub record ComputesData : Type 0 where
  -- MOVS r1, #200
  pub moves : Becomes (0x21C8 ∷ []) (core 1 2 3 4 0x20000040) (record (core 1 200 3 4 0x20000040) { pc = 50 })
  -- ADDS r0, r1, r2: 0x7FFFFFFF + 1
  pub adds : Becomes (0x1888 ∷ []) (core 9 0x7FFFFFFF 1 0 0x20000040) (record (core 0x80000000 0x7FFFFFFF 1 0 0x20000040) { pc = 50; flags = flags true false false true })
  -- SUBS r0, #1: 0 - 1
  pub subtracts : Becomes (0x3801 ∷ []) (core 0 1 2 3 0x20000040) (record (core 0xFFFFFFFF 1 2 3 0x20000040) { pc = 50; flags = flags true false false false })
  -- CMP r1, r2 where they are equal
  pub compares : Becomes (0x4291 ∷ []) (core 0 7 7 3 0x20000040) (record (core 0 7 7 3 0x20000040) { pc = 50; flags = flags false true true false })
  -- RSBS r0, r1, #0
  pub negates : Becomes (0x4248 ∷ []) (core 0 5 2 3 0x20000040) (record (core 0xFFFFFFFB 5 2 3 0x20000040) { pc = 50; flags = flags true false false false })
  -- LSLS r0, r1, #4: bit 28 falls out last
  pub shifts : Becomes (0x0108 ∷ []) (core 0 0x1000000F 2 3 0x20000040) (record (core 0xF0 0x1000000F 2 3 0x20000040) { pc = 50; flags = flags false false true false })
  -- ASRS r0, r1, #32, whose field is 0
  pub shifts_all : Becomes (0x1008 ∷ []) (core 0 0x80000000 2 3 0x20000040) (record (core 0xFFFFFFFF 0x80000000 2 3 0x20000040) { pc = 50; flags = flags true false true false })
  -- LSRS r0, r1 by a register that holds 33
  pub shifts_out : Becomes (0x40C8 ∷ []) (core 0xFFFFFFFF 33 2 3 0x20000040) (record (core 0 33 2 3 0x20000040) { pc = 50; flags = flags false true false false })
  -- ADCS r0, r1 with a carry, and SBCS r0, r1 without
  pub adds_carry : Becomes (0x4148 ∷ []) (record (core 1 2 3 4 0x20000040) { flags = flags true true true true }) (record (core 4 2 3 4 0x20000040) { pc = 50 })
  pub subtracts_borrow : Becomes (0x4188 ∷ []) (core 5 2 3 4 0x20000040) (record (core 2 2 3 4 0x20000040) { pc = 50; flags = flags false false true false })
  -- RORS r0, r1
  pub rotates : Becomes (0x41C8 ∷ []) (core 1 1 2 3 0x20000040) (record (core 0x80000000 1 2 3 0x20000040) { pc = 50; flags = flags true false true false })
  -- MULS r0, r1, r0 leaves C and V
  pub multiplies : Becomes (0x4348 ∷ []) (record (core 0x10000 0x10001 2 3 0x20000040) { flags = flags true true true true }) (record (core 0x10000 0x10001 2 3 0x20000040) { pc = 50; flags = flags false false true true })
  -- MVNS r0, r1; BICS r0, r1; ORRS r0, r1; EORS r0, r1; ANDS r0, r1
  pub inverts : Becomes (0x43C8 ∷ []) (core 0 0 2 3 0x20000040) (record (core 0xFFFFFFFF 0 2 3 0x20000040) { pc = 50; flags = flags true false false false })
  pub clears : Becomes (0x4388 ∷ []) (core 0xFF 0x0F 2 3 0x20000040) (record (core 0xF0 0x0F 2 3 0x20000040) { pc = 50 })
  pub joins : Becomes (0x4308 ∷ []) (core 0xF0 0x0F 2 3 0x20000040) (record (core 0xFF 0x0F 2 3 0x20000040) { pc = 50 })
  pub differs : Becomes (0x4048 ∷ []) (core 5 5 2 3 0x20000040) (record (core 0 5 2 3 0x20000040) { pc = 50; flags = flags false true false false })
  pub meets : Becomes (0x4008 ∷ []) (core 6 3 2 3 0x20000040) (record (core 2 3 2 3 0x20000040) { pc = 50 })
  -- TST r0, r1; CMN r0, r1
  pub tests : Becomes (0x4208 ∷ []) (core 1 2 2 3 0x20000040) (record (core 1 2 2 3 0x20000040) { pc = 50; flags = flags false true false false })
  pub compares_negative : Becomes (0x42C8 ∷ []) (core 1 0xFFFFFFFF 2 3 0x20000040) (record (core 1 0xFFFFFFFF 2 3 0x20000040) { pc = 50; flags = flags false true true false })
  -- UDIV r0, r1, r2 by 0; SDIV r0, r1, r2 of the least number by -1
  pub divides_by_zero : Becomes (0xFBB1 ∷ 0xF0F2 ∷ []) (core 9 8 0 3 0x20000040) (record (core 0 8 0 3 0x20000040) { pc = 52 })
  pub divides_least : Becomes (0xFB91 ∷ 0xF0F2 ∷ []) (core 9 0x80000000 0xFFFFFFFF 3 0x20000040) (record (core 0x80000000 0x80000000 0xFFFFFFFF 3 0x20000040) { pc = 52 })
  -- MOVW r3, #0x1234; MOVT r3, #0xABCD
  pub moves_wide : Becomes (0xF241 ∷ 0x2334 ∷ []) (core 0 1 2 3 0x20000040) (record (core 0 1 2 0x1234 0x20000040) { pc = 52 })
  pub moves_top : Becomes (0xF6CA ∷ 0x33CD ∷ []) (core 0 1 2 0xFFFF0004 0x20000040) (record (core 0 1 2 0xABCD0004 0x20000040) { pc = 52 })
  -- MOV r12, r3; MOV r3, r12; MOV sp, r1, whose low two bits stay 0; ADD r8, r1; CMP r8, r1
  pub moves_high : Becomes (0x469C ∷ []) (core 0 1 2 77 0x20000040) (record (core 0 1 2 77 0x20000040) { pc = 50; high = 8 ∷ 9 ∷ 10 ∷ 11 ∷ 77 ∷ [] })
  pub moves_low : Becomes (0x4663 ∷ []) (core 0 1 2 77 0x20000040) (record (core 0 1 2 12 0x20000040) { pc = 50 })
  pub moves_stack : Becomes (0x468D ∷ []) (core 0 0x20000013 2 3 0x20000040) (record (core 0 0x20000013 2 3 0x20000010) { pc = 50 })
  pub adds_high : Becomes (0x4488 ∷ []) (core 0 0xFFFFFFF9 2 3 0x20000040) (record (core 0 0xFFFFFFF9 2 3 0x20000040) { pc = 50; high = 1 ∷ 9 ∷ 10 ∷ 11 ∷ 12 ∷ [] })
  pub compares_high : Becomes (0x4588 ∷ []) (core 0 9 2 3 0x20000040) (record (core 0 9 2 3 0x20000040) { pc = 50; flags = flags true false false false })
  -- ADD r1, sp, #8; SUB sp, #8; ADD sp, #8
  pub adds_stack : Becomes (0xA902 ∷ []) (core 0 1 2 3 0x20000010) (record (core 0 0x20000018 2 3 0x20000010) { pc = 50 })
  pub lowers_stack : Becomes (0xB082 ∷ []) (core 0 1 2 3 0x20000010) (record (core 0 1 2 3 0x20000008) { pc = 50 })
  pub raises_stack : Becomes (0xB002 ∷ []) (core 0 1 2 3 0x20000010) (record (core 0 1 2 3 0x20000018) { pc = 50 })
  -- NOP; DSB
  pub rests : Becomes (0xBF00 ∷ []) (core 0 1 2 3 0x20000010) (record (core 0 1 2 3 0x20000010) { pc = 50 })
  pub waits : Becomes (0xF3BF ∷ 0x8F4F ∷ []) (core 0 1 2 3 0x20000010) (record (core 0 1 2 3 0x20000010) { pc = 52 })

pub record ComputesBranches : Type 0 where
  -- BEQ to 8 behind, taken and not; BNE to 2 before
  pub taken : Becomes (0xD002 ∷ []) (record (core 0 1 2 3 0x20000040) { flags = flags false true false false }) (record (core 0 1 2 3 0x20000040) { pc = 56; flags = flags false true false false })
  pub not_taken : Becomes (0xD002 ∷ []) (core 0 1 2 3 0x20000040) (record (core 0 1 2 3 0x20000040) { pc = 50 })
  pub backward : Becomes (0xD1FD ∷ []) (core 0 1 2 3 0x20000040) (record (core 0 1 2 3 0x20000040) { pc = 46 })
  -- B to itself; B.W to 12 behind; BL to 12 behind; BL to itself
  pub loops : Becomes (0xE7FE ∷ []) (core 0 1 2 3 0x20000040) (core 0 1 2 3 0x20000040)
  pub far : Becomes (0xF000 ∷ 0xB804 ∷ []) (core 0 1 2 3 0x20000040) (record (core 0 1 2 3 0x20000040) { pc = 60 })
  pub links : Becomes (0xF000 ∷ 0xF804 ∷ []) (core 0 1 2 3 0x20000040) (record (core 0 1 2 3 0x20000040) { pc = 60; lr = 53 })
  pub links_back : Becomes (0xF7FF ∷ 0xFFFE ∷ []) (core 0 1 2 3 0x20000040) (record (core 0 1 2 3 0x20000040) { pc = 48; lr = 53 })
  -- BLX r3; BX r3; BLX lr, which jumps by the old link
  pub calls : Becomes (0x4798 ∷ []) (core 0 1 2 0x41 0x20000040) (record (core 0 1 2 0x41 0x20000040) { pc = 64; lr = 51 })
  pub jumps : Becomes (0x4718 ∷ []) (core 0 1 2 0x41 0x20000040) (record (core 0 1 2 0x41 0x20000040) { pc = 64 })
  pub calls_back : Becomes (0x47F0 ∷ []) (core 0 1 2 3 0x20000040) (record (core 0 1 2 3 0x20000040) { pc = 52; lr = 51 })
  -- BKPT #7
  pub halts :
      turn by_mpu (board (0xBE07 ∷ [])) (machine (core 0 1 2 3 0x20000040) privileged zeros)
      ≡ ends (Halt 7) (machine (core 0 1 2 3 0x20000040) privileged zeros)

pub record ComputesTransfers : Type 0 where
  -- PUSH {r0, lr}; POP {r0, pc}
  pub pushes : Storing (0xB501 ∷ []) (core 9 1 2 3 0x20000020) (record (core 9 1 2 3 0x20000018) { pc = 50 }) (ram_with 6 (9 ∷ 0x35 ∷ []) 8) (four 0x20000018 ∷ four 0x2000001C ∷ [])
  pub pops : Loading (0xBD01 ∷ []) (core 9 1 2 3 0x20000018) (record (core 7 1 2 3 0x20000020) { pc = 64 }) (ram_with 6 (7 ∷ 0x41 ∷ []) 8) (four 0x20000018 ∷ four 0x2000001C ∷ [])
  -- STMIA r0!, {r0, r3} stores the base as it was; LDMIA r0!, {r1, r2}; LDMIA r0, {r0, r1} loads the base
  pub stores_many : Storing (0xC009 ∷ []) (core 0x20000008 1 2 3 0x20000020) (record (core 0x20000010 1 2 3 0x20000020) { pc = 50 }) (ram_with 2 (0x20000008 ∷ 3 ∷ []) 12) (four 0x20000008 ∷ four 0x2000000C ∷ [])
  pub loads_many : Loading (0xC806 ∷ []) (core 0x20000008 1 2 3 0x20000020) (record (core 0x20000010 70 71 3 0x20000020) { pc = 50 }) (ram_with 2 (70 ∷ 71 ∷ []) 12) (four 0x20000008 ∷ four 0x2000000C ∷ [])
  pub loads_base : Loading (0xC803 ∷ []) (core 0x20000008 1 2 3 0x20000020) (record (core 70 71 2 3 0x20000020) { pc = 50 }) (ram_with 2 (70 ∷ 71 ∷ []) 12) (four 0x20000008 ∷ four 0x2000000C ∷ [])
  -- LDR r2, [pc, #4], and the same at 50, from where the base is rounded down
  pub loads_literal : Loading (0x4A01 ∷ 0 ∷ 0 ∷ 0 ∷ 0x5678 ∷ 0x1234 ∷ []) (core 0 1 2 3 0x20000020) (record (core 0 1 0x12345678 3 0x20000020) { pc = 50 }) zeros (four 56 ∷ [])
  pub loads_literal_rounded : Loading (0 ∷ 0x4A01 ∷ 0 ∷ 0 ∷ 0x5678 ∷ 0x1234 ∷ []) (record (core 0 1 2 3 0x20000020) { pc = 50 }) (record (core 0 1 0x12345678 3 0x20000020) { pc = 52 }) zeros (four 56 ∷ [])
  -- STR r0, [r1, #4]; STRH r0, [r1, #2]; STRB r0, [r1, #1]
  pub stores_word : Storing (0x6048 ∷ []) (core 0x12345678 0x20000004 2 3 0x20000020) (record (core 0x12345678 0x20000004 2 3 0x20000020) { pc = 50 }) (ram_with 2 (0x12345678 ∷ []) 13) (four 0x20000008 ∷ [])
  pub stores_half : Storing (0x8048 ∷ []) (core 0x12345678 0x20000004 2 3 0x20000020) (record (core 0x12345678 0x20000004 2 3 0x20000020) { pc = 50 }) (ram_with 1 (0x56780000 ∷ []) 14) (record { width = 2; address = 0x20000006 } ∷ [])
  pub stores_byte : Storing (0x7048 ∷ []) (core 0x12345678 0x20000004 2 3 0x20000020) (record (core 0x12345678 0x20000004 2 3 0x20000020) { pc = 50 }) (ram_with 1 (0x7800 ∷ []) 14) (record { width = 1; address = 0x20000005 } ∷ [])
  -- LDR r0, [r1, #4]; LDRH r0, [r1, #2]; LDRB r0, [r1, #1]
  pub loads_word : Loading (0x6848 ∷ []) (core 0 0x20000004 2 3 0x20000020) (record (core 0x12345678 0x20000004 2 3 0x20000020) { pc = 50 }) (ram_with 2 (0x12345678 ∷ []) 13) (four 0x20000008 ∷ [])
  pub loads_half : Loading (0x8848 ∷ []) (core 0 0x20000004 2 3 0x20000020) (record (core 0x1234 0x20000004 2 3 0x20000020) { pc = 50 }) (ram_with 1 (0x12345678 ∷ []) 14) (record { width = 2; address = 0x20000006 } ∷ [])
  pub loads_byte : Loading (0x7848 ∷ []) (core 0 0x20000004 2 3 0x20000020) (record (core 0x56 0x20000004 2 3 0x20000020) { pc = 50 }) (ram_with 1 (0x12345678 ∷ []) 14) (record { width = 1; address = 0x20000005 } ∷ [])
  -- LDRSB r0, [r1, r2]; LDRSH r0, [r1, r2]
  pub loads_signed_byte : Loading (0x5688 ∷ []) (core 0 0x20000004 1 3 0x20000020) (record (core 0xFFFFFF80 0x20000004 1 3 0x20000020) { pc = 50 }) (ram_with 1 (0x8000 ∷ []) 14) (record { width = 1; address = 0x20000005 } ∷ [])
  pub loads_signed_half : Loading (0x5E88 ∷ []) (core 0 0x20000004 2 3 0x20000020) (record (core 0xFFFF8001 0x20000004 2 3 0x20000020) { pc = 50 }) (ram_with 1 (0x80010000 ∷ []) 14) (record { width = 2; address = 0x20000006 } ∷ [])
  -- STR r3, [sp, #4]; LDR r3, [sp, #4]
  pub stores_stack : Storing (0x9301 ∷ []) (core 0 1 2 3 0x20000020) (record (core 0 1 2 3 0x20000020) { pc = 50 }) (ram_with 9 (3 ∷ []) 6) (four 0x20000024 ∷ [])
  pub loads_stack : Loading (0x9B01 ∷ []) (core 0 1 2 3 0x20000020) (record (core 0 1 2 70 0x20000020) { pc = 50 }) (ram_with 9 (70 ∷ []) 6) (four 0x20000024 ∷ [])

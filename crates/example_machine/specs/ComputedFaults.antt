-- Beyond the program's claim: only laws, proofs and functions inside the tool cite this file.
-- Computed examples of protection, exceptions, windows and stops. The values are worked out by hand from the
-- manual's B1.5, B3.2 and B3.5, and where this profile decides, from its rules.
use Rattle.std.specs.Prelude.{replicate}
use Rattle.std.specs.Prelude.{◌≡◌, ℕ, ◌+◌, List, [], ◌∷◌, ◌++◌, true, false, Some, None}
use Rattle.machine_protection.specs.declared.region.Access.TheVariants.{Read, Write, Fetch}
use Rattle.machine_protection.specs.Protection.{permits}
use Rattle.machine_protection.specs.Registers.{Registers, blank}
use Rattle.machine_devices.specs.declared.image.Image.{Image}
use Rattle.machine_model.specs.declared.state.CoreRegisters.{CoreRegisters}
use Rattle.machine_model.specs.declared.state.ProtectionState.{ProtectionState}
use Rattle.machine_model.specs.declared.state.End.TheVariants.{InputEnd, Halt}
use Rattle.machine_model.specs.declared.state.StopReason.{StopReason}
use Rattle.machine_model.specs.declared.state.StopReason.TheVariants.{Unaligned, Bus, MemDisabled, Stacking, Unstacking, Handler, Usage, Undefined}
use Rattle.machine_model.specs.State.{State, Touched, by_mpu, calm, ends, stops}
use Rattle.machine_model.specs.Step.{turn}
use Rattle.machine_model.specs.Run.{start, after, events_after}
use Rattle.example_machine.specs.Board.{board, core, machine, privileged, unprivileged, zeros, ram_with, no_flags, unit_off, with_region, switched_on}
use Rattle.example_machine.specs.ComputedSteps.{four, flags}

-- the lowest gigabyte that unprivileged code may read, code at 0, and a data block of 32 bytes at 0x20000020
abbrev pub guarded : Registers
guarded = switched_on (with_region 0x20000034 0x13060009 (with_region 0x12 0x0602000D (with_region 0x10 0x1206003B unit_off)))

-- the same, with the block covered by a region that is only read
abbrev pub covered : Registers
covered = with_region 0x20000035 0x16060009 guarded

-- a block of 256 bytes without the lowest and the highest of its eight parts
abbrev pub striped : Registers
striped = switched_on (with_region 0x20000014 0x1306810F unit_off)

pub record ComputesProtection : Type 0 where
  pub first : permits guarded true Write 0x20000020 ≡ true
  pub last : permits guarded true Write 0x2000003F ≡ true
  pub below : permits guarded true Write 0x2000001F ≡ false
  pub above : permits guarded true Write 0x20000040 ≡ false
  pub reads_outside : permits guarded true Read 0x2000001F ≡ true
  pub is_covered : permits covered true Write 0x20000020 ≡ false
  pub reads_covered : permits covered true Read 0x20000020 ≡ true
  pub is_covered_privileged : permits covered false Write 0x20000020 ≡ false
  pub is_beside_cover : permits covered false Write 0x20000040 ≡ true
  pub no_region : permits guarded true Read 0x40000000 ≡ false
  pub background : permits guarded false Read 0x40000000 ≡ true
  pub runs : permits guarded true Fetch 0x30 ≡ true
  pub never_runs : permits guarded true Fetch 0x20000020 ≡ false
  pub off : permits unit_off true Write 0xF0000000 ≡ true
  pub off_runs : permits unit_off true Fetch 0x60000000 ≡ true
  pub off_never_runs : permits unit_off false Fetch 0x40000000 ≡ false
  pub part_out : permits striped true Write 0x2000001F ≡ false
  pub part_in : permits striped true Write 0x20000020 ≡ true
  pub last_part_in : permits striped true Write 0x200000DF ≡ true
  pub last_part_out : permits striped true Write 0x200000E0 ≡ false

-- eight words from an address on
abbrev pub eight : (address : ℕ) → List Touched
eight a = four a ∷ four (a + 4) ∷ four (a + 8) ∷ four (a + 12) ∷ four (a + 16) ∷ four (a + 20) ∷ four (a + 24) ∷ four (a + 28) ∷ []

abbrev pub in_handler : ProtectionState → ProtectionState
in_handler p = record p { handler = true }

-- registers of a thread on the process stack, with N and C set
abbrev pub thread : (sp : ℕ) → CoreRegisters
thread sp = record (core 1 2 3 4 sp) { on_psp = true; flags = flags true false true false }

-- registers of a handler that has used r0 to r3 and r12, and goes back by its link
abbrev pub handler : (sp other_sp lr : ℕ) → CoreRegisters
handler sp other lr = record (core 90 91 92 93 sp) { high = 8 ∷ 9 ∷ 10 ∷ 11 ∷ 99 ∷ []; other_sp = other; lr = lr }

pub record ComputesExceptions : Type 0 where
  -- SVC #0 on the process stack, unprivileged
  pub calls :
      turn by_mpu (board (0xDF00 ∷ [])) (machine (thread 0x20000040) (unprivileged guarded) zeros)
      ≡ record {
        to = machine (record (thread 0x20000010) { other_sp = 0x20000020; on_psp = false; lr = 0xFFFFFFFD; pc = 0x90 }) (in_handler (unprivileged guarded))
            (ram_with 8 (1 ∷ 2 ∷ 3 ∷ 4 ∷ 12 ∷ 0x35 ∷ 50 ∷ 0xA1000000 ∷ []) 0);
        stores = eight 0x20000020;
        loads = four 44 ∷ [];
        event = None;
      }
  -- SVC #0 on the main stack, with a pad
  pub calls_padded :
      turn by_mpu (board (0xDF00 ∷ [])) (machine (core 1 2 3 4 0x2000003C) privileged zeros)
      ≡ record {
        to = machine (record (core 1 2 3 4 0x20000018) { lr = 0xFFFFFFF9; pc = 0x90 }) (in_handler privileged)
            (ram_with 6 (1 ∷ 2 ∷ 3 ∷ 4 ∷ 12 ∷ 0x35 ∷ 50 ∷ 0x01000200 ∷ []) 2);
        stores = eight 0x20000018;
        loads = four 44 ∷ [];
        event = None;
      }
  -- BX lr back to the process stack, and to the main stack over a pad
  pub returns :
      turn by_mpu (board (0x4770 ∷ [])) (machine (handler 0x20000010 0x20000020 0xFFFFFFFD) (in_handler (unprivileged guarded)) (ram_with 8 (1 ∷ 2 ∷ 3 ∷ 4 ∷ 12 ∷ 0x35 ∷ 50 ∷ 0xA1000000 ∷ []) 0))
      ≡ record {
        to = machine (record (thread 0x20000040) { pc = 50 }) (unprivileged guarded) (ram_with 8 (1 ∷ 2 ∷ 3 ∷ 4 ∷ 12 ∷ 0x35 ∷ 50 ∷ 0xA1000000 ∷ []) 0);
        stores = [];
        loads = eight 0x20000020;
        event = None;
      }
  pub returns_padded :
      turn by_mpu (board (0x4770 ∷ [])) (machine (handler 0x20000018 0x20000010 0xFFFFFFF9) (in_handler privileged) (ram_with 6 (1 ∷ 2 ∷ 3 ∷ 4 ∷ 12 ∷ 0x35 ∷ 51 ∷ 0x01000200 ∷ []) 2))
      ≡ record {
        to = machine (record (core 1 2 3 4 0x2000003C) { pc = 50 }) privileged (ram_with 6 (1 ∷ 2 ∷ 3 ∷ 4 ∷ 12 ∷ 0x35 ∷ 51 ∷ 0x01000200 ∷ []) 2);
        stores = [];
        loads = eight 0x20000018;
        event = None;
      }
  -- STR r0, [r1] into what is only read
  pub refuses :
      turn by_mpu (board (0x6008 ∷ [])) (machine (record (core 9 0x20000004 3 4 0x20000040) { on_psp = true }) (unprivileged guarded) zeros)
      ≡ record {
        to = record (machine (record (core 9 0x20000004 3 4 0x20000010) { other_sp = 0x20000020; lr = 0xFFFFFFFD; pc = 0x80 }) (in_handler (unprivileged guarded))
            (ram_with 8 (9 ∷ 0x20000004 ∷ 3 ∷ 4 ∷ 12 ∷ 0x35 ∷ 48 ∷ 0x01000000 ∷ []) 0)) { status = record { shcsr = 0x10000; cfsr = 0x82; mmfar = 0x20000004 } };
        stores = eight 0x20000020;
        loads = four 16 ∷ [];
        event = None;
      }
  -- a fetch where nothing may be run
  pub refuses_fetch :
      turn by_mpu (board []) (machine (record (core 9 8 3 4 0x20000040) { pc = 0x20000000 }) (unprivileged guarded) zeros)
      ≡ record {
        to = record (machine (record (core 9 8 3 4 0x20000020) { lr = 0xFFFFFFF9; pc = 0x80 }) (in_handler (unprivileged guarded))
            (ram_with 8 (9 ∷ 8 ∷ 3 ∷ 4 ∷ 12 ∷ 0x35 ∷ 0x20000000 ∷ 0x01000000 ∷ []) 0)) { status = record { shcsr = 0x10000; cfsr = 1; mmfar = 0 } };
        stores = eight 0x20000020;
        loads = four 16 ∷ [];
        event = None;
      }

-- STMIA r1!, {r0, r2}: protection refuses the first word, and the second, and nothing is stored but the frame
abbrev pub RefusesMany : (base refused : ℕ) → Type 0
RefusesMany base a =
    turn by_mpu (board (0xC105 ∷ [])) (machine (core 9 base 3 4 0x20000040) (unprivileged guarded) zeros)
    ≡ record {
      to = record (machine (record (core 9 base 3 4 0x20000020) { lr = 0xFFFFFFF9; pc = 0x80 }) (in_handler (unprivileged guarded))
          (ram_with 8 (9 ∷ base ∷ 3 ∷ 4 ∷ 12 ∷ 0x35 ∷ 48 ∷ 0x01000000 ∷ []) 0)) { status = record { shcsr = 0x10000; cfsr = 0x82; mmfar = a } };
      stores = eight 0x20000020;
      loads = four 16 ∷ [];
      event = None;
    }

-- the data block, for privileged code alone
abbrev pub closed : Registers
closed = with_region 0x20000034 0x11060009 guarded

pub record ComputesTests : Type 0 where
  pub first_word : RefusesMany 0x2000001C 0x2000001C
  pub second_word : RefusesMany 0x2000003C 0x20000040
  -- a frame that the thread may not write, though a handler might
  pub stacking : turn by_mpu (board (0xDF00 ∷ [])) (machine (core 1 2 3 4 0x2000003C) (unprivileged guarded) zeros) ≡ stops Stacking (machine (core 1 2 3 4 0x2000003C) (unprivileged guarded) zeros)
  -- a frame that the thread may not read, though the handler may
  pub unstacking :
      turn by_mpu (board (0x4770 ∷ [])) (machine (handler 0x20000010 0x20000020 0xFFFFFFFD) (in_handler (unprivileged closed)) (ram_with 8 (1 ∷ 2 ∷ 3 ∷ 4 ∷ 12 ∷ 0x35 ∷ 50 ∷ 0x01000000 ∷ []) 0))
      ≡ stops Unstacking (machine (handler 0x20000010 0x20000020 0xFFFFFFFD) (in_handler (unprivileged closed)) (ram_with 8 (1 ∷ 2 ∷ 3 ∷ 4 ∷ 12 ∷ 0x35 ∷ 50 ∷ 0x01000000 ∷ []) 0))
  -- a frame that a privileged thread may read
  pub unstacking_privileged :
      turn by_mpu (board (0x4770 ∷ [])) (machine (handler 0x20000010 0x20000020 0xFFFFFFFD) (record { handler = true; unprivileged = false; mpu = closed }) (ram_with 8 (1 ∷ 2 ∷ 3 ∷ 4 ∷ 12 ∷ 0x35 ∷ 50 ∷ 0xA1000000 ∷ []) 0))
      ≡ record {
        to = machine (record (thread 0x20000040) { pc = 50 }) (record { handler = false; unprivileged = false; mpu = closed }) (ram_with 8 (1 ∷ 2 ∷ 3 ∷ 4 ∷ 12 ∷ 0x35 ∷ 50 ∷ 0xA1000000 ∷ []) 0);
        stores = [];
        loads = eight 0x20000020;
        event = None;
      }

-- a machine whose window has these words left
abbrev pub recorded : State → List ℕ → State
recorded s ws = record s { queues = ws ∷ [] }

-- the monitor's block at the start of RAM, whose first word tells the compartment
abbrev pub monitored : Image → Image
monitored i = record i { monitor = 0x20000000 }

pub record ComputesWindows : Type 0 where
  -- LDRB r0, [r1]
  pub loads :
      turn by_mpu (board (0x7808 ∷ [])) (recorded (machine (core 0 0x40000004 2 3 0x20000040) privileged zeros) (0x1234 ∷ 5 ∷ []))
      ≡ record {
        to = recorded (machine (record (core 0x34 0x40000004 2 3 0x20000040) { pc = 50 }) privileged zeros) (5 ∷ []);
        stores = [];
        loads = record { width = 1; address = 0x40000004 } ∷ [];
        event = Some (record { compartment = 0; periph = 0; offset = 4; width = 1; write = false; value = 0x34 });
      }
  pub runs_dry :
      turn by_mpu (board (0x7808 ∷ [])) (machine (core 0 0x40000004 2 3 0x20000040) privileged zeros)
      ≡ ends InputEnd (machine (core 0 0x40000004 2 3 0x20000040) privileged zeros)
  -- STRH r0, [r1], by compartment 3
  pub stores :
      turn by_mpu (monitored (board (0x8008 ∷ []))) (machine (core 0x12345678 0x40000006 2 3 0x20000040) privileged (ram_with 0 (3 ∷ []) 15))
      ≡ record {
        to = machine (record (core 0x12345678 0x40000006 2 3 0x20000040) { pc = 50 }) privileged (ram_with 0 (3 ∷ []) 15);
        stores = record { width = 2; address = 0x40000006 } ∷ [];
        loads = [];
        event = Some (record { compartment = 3; periph = 0; offset = 6; width = 2; write = true; value = 0x5678 });
      }

-- one step stops
abbrev pub Stopping : (code : List ℕ) → CoreRegisters → ProtectionState → (ram : List ℕ) → StopReason → Type 0
Stopping code c p ram r = turn by_mpu (board code) (machine c p ram) ≡ stops r (machine c p ram)

abbrev pub not_enabled : State → State
not_enabled s = record s { status = record { shcsr = 0; cfsr = 0; mmfar = 0 } }

pub record ComputesStops : Type 0 where
  -- LDR r0, [r1]
  pub unaligned : Stopping (0x6808 ∷ []) (core 0 0x20000002 2 3 0x20000040) privileged zeros Unaligned
  pub unmapped : Stopping (0x6808 ∷ []) (core 0 0x20000040 2 3 0x20000040) privileged zeros Bus
  -- before protection, which refuses the address too
  pub unaligned_first : Stopping (0x6808 ∷ []) (core 0 0x40000002 2 3 0x20000040) (unprivileged guarded) zeros Unaligned
  -- a register of the system, read unprivileged, and by LDRH r0, [r1]
  pub system : Stopping (0x6808 ∷ []) (core 0 0xE000ED94 2 3 0x20000040) (unprivileged guarded) zeros Bus
  pub system_half : Stopping (0x8808 ∷ []) (core 0 0xE000ED94 2 3 0x20000040) privileged zeros Bus
  pub no_system_register : Stopping (0x6808 ∷ []) (core 0 0xE000ED10 2 3 0x20000040) privileged zeros Bus
  -- STR r0, [r1] to flash; LDMIA r0!, {r1} from a window
  pub flash : Stopping (0x6008 ∷ []) (core 0 0x20 2 3 0x20000040) privileged zeros Bus
  pub many_from_window : Stopping (0xC802 ∷ []) (core 0x40000000 1 2 3 0x20000040) privileged zeros Bus
  -- STR r0, [r1] into what is only read
  pub disabled :
      turn by_mpu (board (0x6008 ∷ [])) (not_enabled (machine (core 9 0x20000004 3 4 0x20000040) (unprivileged guarded) zeros))
      ≡ stops MemDisabled (not_enabled (machine (core 9 0x20000004 3 4 0x20000040) (unprivileged guarded) zeros))
  -- the same, and SVC #0, in a handler
  pub fault_in_handler : Stopping (0x6008 ∷ []) (core 9 0x20000020 3 4 0x20000040) (in_handler (unprivileged covered)) zeros Handler
  pub call_in_handler : Stopping (0xDF00 ∷ []) (core 9 8 3 4 0x20000040) (in_handler privileged) zeros Handler
  -- SVC #0 with a frame that begins below RAM
  pub stacking : Stopping (0xDF00 ∷ []) (core 9 8 3 4 0x2000001C) privileged zeros Stacking
  -- BX lr with a frame that ends above RAM
  pub unstacking : Stopping (0x4770 ∷ []) (handler 0x20000040 0x20000024 0xFFFFFFFD) (in_handler privileged) zeros Unstacking
  -- BX lr with a stacked xPSR of 0, and of an exception's number
  pub no_thumb : Stopping (0x4770 ∷ []) (handler 0x20000040 0x20000020 0xFFFFFFFD) (in_handler privileged) zeros Usage
  pub no_thread : Stopping (0x4770 ∷ []) (handler 0x20000040 0x20000020 0xFFFFFFFD) (in_handler privileged) (ram_with 15 (0x0100000B ∷ []) 0) Usage
  -- BX r3; BLX r3; POP {pc}
  pub even : Stopping (0x4718 ∷ []) (core 0 1 2 0x40 0x20000040) privileged zeros Usage
  pub even_call : Stopping (0x4798 ∷ []) (core 0 1 2 0x40 0x20000040) privileged zeros Usage
  pub even_pop : Stopping (0xBD00 ∷ []) (core 0 1 2 3 0x20000020) privileged (ram_with 8 (0x40 ∷ []) 7) Usage
  -- UDF #0
  pub undefined : Stopping (0xDE00 ∷ []) (core 0 1 2 3 0x20000040) privileged zeros Undefined
  -- a fetch outside memory
  pub no_code : Stopping [] (core 0 1 2 3 0x20000040) privileged zeros Bus
  -- in Thread mode the value of an exception return is an address like any other, where nothing may be run
  pub no_return :
      turn by_mpu (board (0x4718 ∷ [])) (machine (core 0 1 2 0xFFFFFFFD 0x20000040) privileged zeros)
      ≡ calm (machine (record (core 0 1 2 0xFFFFFFFD 0x20000040) { pc = 0xFFFFFFFC }) privileged zeros)
  -- what has ended stays
  pub stays :
      turn by_mpu (board (0x21C8 ∷ [])) (record (machine (core 0 1 2 3 0x20000040) privileged zeros) { ending = Some (Halt 7) })
      ≡ calm (record (machine (core 0 1 2 3 0x20000040) privileged zeros) { ending = Some (Halt 7) })

-- one step changes what is no memory
abbrev pub Turning : (code : List ℕ) → (from to : State) → (stores loads : List Touched) → Type 0
Turning code s t xs ys = turn by_mpu (board code) s ≡ record { to = t; stores = xs; loads = ys; event = None }

pub record ComputesSystem : Type 0 where
  -- STR r0, [r1] to MPU_CTRL; LDR r0, [r1] from MPU_TYPE and CCR
  pub switches :
      Turning (0x6008 ∷ []) (machine (core 13 0xE000ED94 2 3 0x20000040) privileged zeros)
      (machine (record (core 13 0xE000ED94 2 3 0x20000040) { pc = 50 }) (record privileged { mpu = record unit_off { control = 5 } }) zeros) (four 0xE000ED94 ∷ []) []
  pub counts :
      Turning (0x6808 ∷ []) (machine (core 0 0xE000ED90 2 3 0x20000040) privileged zeros)
      (machine (record (core 0x800 0xE000ED90 2 3 0x20000040) { pc = 50 }) privileged zeros) [] (four 0xE000ED90 ∷ [])
  pub configures :
      Turning (0x6808 ∷ []) (machine (core 0 0xE000ED14 2 3 0x20000040) privileged zeros)
      (machine (record (core 0x200 0xE000ED14 2 3 0x20000040) { pc = 50 }) privileged zeros) [] (four 0xE000ED14 ∷ [])
  -- STR r0, [r1] to CFSR clears the ones
  pub clears :
      Turning (0x6008 ∷ []) (record (machine (core 0x80 0xE000ED28 2 3 0x20000040) privileged zeros) { status = record { shcsr = 0; cfsr = 0x82; mmfar = 7 } })
      (record (machine (record (core 0x80 0xE000ED28 2 3 0x20000040) { pc = 50 }) privileged zeros) { status = record { shcsr = 0; cfsr = 2; mmfar = 7 } }) (four 0xE000ED28 ∷ []) []
  -- STMIA r1!, {r0, r2} to MPU_RBAR and MPU_RASR; LDMIA r1!, {r0, r2} from MPU_CTRL and MPU_RNR
  pub stores_region :
      Turning (0xC105 ∷ []) (machine (core 0x20000034 0xE000ED9C 0x13060009 3 0x20000040) privileged zeros)
      (machine (record (core 0x20000034 0xE000EDA4 0x13060009 3 0x20000040) { pc = 50 })
      (record privileged { mpu = record { control = 0; number = 4; regions = replicate 4 blank ++ record { rbar = 0x20000020; rasr = 0x13060009 } ∷ replicate 3 blank } }) zeros)
      (four 0xE000ED9C ∷ four 0xE000EDA0 ∷ []) []
  pub loads_control :
      Turning (0xC905 ∷ []) (machine (core 0 0xE000ED94 2 3 0x20000040) (record privileged { mpu = record unit_off { control = 4; number = 6 } }) zeros)
      (machine (record (core 4 0xE000ED9C 6 3 0x20000040) { pc = 50 }) (record privileged { mpu = record unit_off { control = 4; number = 6 } }) zeros)
      [] (four 0xE000ED94 ∷ four 0xE000ED98 ∷ [])
  -- MSR CONTROL, r0, privileged and not; MSR PSP, r0; MSR MSP, r0
  pub selects :
      Turning (0xF380 ∷ 0x8814 ∷ []) (machine (core 3 1 2 3 0x20000040) privileged zeros)
      (machine (record (core 3 1 2 3 0x20000010) { other_sp = 0x20000040; on_psp = true; pc = 52 }) (unprivileged unit_off) zeros) [] []
  pub cannot_select :
      Turning (0xF380 ∷ 0x8814 ∷ []) (machine (core 0 1 2 3 0x20000040) (unprivileged unit_off) zeros)
      (machine (record (core 0 1 2 3 0x20000040) { pc = 52 }) (unprivileged unit_off) zeros) [] []
  pub sets_other :
      Turning (0xF380 ∷ 0x8809 ∷ []) (machine (core 0x20000033 1 2 3 0x20000040) privileged zeros)
      (machine (record (core 0x20000033 1 2 3 0x20000040) { other_sp = 0x20000030; pc = 52 }) privileged zeros) [] []
  pub sets_own :
      Turning (0xF380 ∷ 0x8808 ∷ []) (machine (core 0x20000033 1 2 3 0x20000040) privileged zeros)
      (machine (record (core 0x20000033 1 2 3 0x20000030) { pc = 52 }) privileged zeros) [] []
  -- MSR CONTROL, r0 in a handler leaves the stack
  pub selects_in_handler :
      Turning (0xF380 ∷ 0x8814 ∷ []) (machine (core 3 1 2 3 0x20000040) (in_handler privileged) zeros)
      (machine (record (core 3 1 2 3 0x20000040) { pc = 52 }) (in_handler (unprivileged unit_off)) zeros) [] []
  -- MRS r0, CONTROL, unprivileged; MRS r0, PSP, privileged and not
  pub reads_control :
      Turning (0xF3EF ∷ 0x8014 ∷ []) (machine (record (core 0 1 2 3 0x20000040) { on_psp = true }) (unprivileged unit_off) zeros)
      (machine (record (core 3 1 2 3 0x20000040) { on_psp = true; pc = 52 }) (unprivileged unit_off) zeros) [] []
  pub reads_other :
      Turning (0xF3EF ∷ 0x8009 ∷ []) (machine (core 0 1 2 3 0x20000040) privileged zeros)
      (machine (record (core 0x20000010 1 2 3 0x20000040) { pc = 52 }) privileged zeros) [] []
  pub cannot_read :
      Turning (0xF3EF ∷ 0x8009 ∷ []) (machine (record (core 9 1 2 3 0x20000040) { on_psp = true }) (unprivileged unit_off) zeros)
      (machine (record (core 0 1 2 3 0x20000040) { on_psp = true; pc = 52 }) (unprivileged unit_off) zeros) [] []
  -- reset
  pub starts :
      start (board []) ([] ∷ []) 0xAA
      ≡ record {
        core = record { low = replicate 8 0; high = replicate 5 0; sp = 0x20000040; other_sp = 0; on_psp = false; lr = 0xFFFFFFFF; pc = 48; flags = no_flags };
        protection = privileged;
        status = record { shcsr = 0; cfsr = 0; mmfar = 0 };
        ram = replicate 64 0xAA;
        queues = [] ∷ [];
        ending = None;
      }

-- MOVS r0, #5; MOVS r1, #64; LSLS r1, r1, #24; STR r0, [r1]; LDR r1, [r1]; BKPT #1
abbrev pub program : Image
program = board (0x2005 ∷ 0x2140 ∷ 0x0609 ∷ 0x6008 ∷ 0x6809 ∷ 0xBE01 ∷ [])

-- seven steps from reset; the last finds the machine ended
pub record ComputesRun : Type 0 where
  pub ends :
      after program ((77 ∷ []) ∷ []) 0 7
      ≡ record {
        core = record { low = 5 ∷ 77 ∷ replicate 6 0; high = replicate 5 0; sp = 0x20000040; other_sp = 0; on_psp = false; lr = 0xFFFFFFFF; pc = 58; flags = no_flags };
        protection = privileged;
        status = record { shcsr = 0; cfsr = 0; mmfar = 0 };
        ram = zeros;
        queues = [] ∷ [];
        ending = Some (Halt 1);
      }
  pub tells :
      events_after program ((77 ∷ []) ∷ []) 0 7
      ≡ record { compartment = 0; periph = 0; offset = 0; width = 4; write = true; value = 5 }
      ∷ record { compartment = 0; periph = 0; offset = 0; width = 4; write = false; value = 77 } ∷ []

-- Beyond the program's claim: only laws, proofs and functions inside the tool cite this file.
-- Small lists of steps: effects, code and steps. Values were worked out by hand.
use Rattle.std.specs.Prelude.{◌≡◌, ℕ, List, [], ◌∷◌, true, false, replicate}
use Rattle.base_words.specs.declared.memory.Width.TheVariants.{Byte, Half, Word}
use Rattle.machine_thumb.specs.Bytes.{code_bytes}
use Rattle.machine_protection.specs.Registers.{at_reset}
use Rattle.machine_model.specs.declared.state.StopReason.TheVariants.{Unaligned, Bus}
use Rattle.machine_model.specs.declared.TheConstants.{CFSR}
use Rattle.machine_model.specs.State.{by_mpu}
use Rattle.monitor_steps.specs.declared.steps.PrivilegedOp.TheVariants.{Add, Sub, And, Or, Shl, Shr}
use Rattle.monitor_steps.specs.declared.steps.PrivilegedCond.TheVariants.{Ult}
use Rattle.monitor_steps.specs.Steps.{PrivilegedSteps, End, Const, Copy, Load, Store, Alu, ReadPsp, WritePsp, WriteControl, Test, Repeat, Halt, Return, Go, ◌▸◌}
use Rattle.monitor_steps.specs.Core.{Core}
use Rattle.monitor_steps.specs.Effect.{Went, Halted, AtReturn, AtBranch, Stopped, Unclaimed}
use Rattle.monitor_steps.specs.Code.{code, code_length}
use Rattle.monitor_steps.specs.Ticks.{ticks, most_ticks}
use Rattle.example_monitor.specs.Board.{image, does}

-- a privileged thread on the main stack, with these numbers in r0 to r7 and sixteen bytes of RAM
abbrev pub core : (low ram : List ℕ) → Core
core low ram = record {
  low = low;
  sp = 0x20000400;
  other_sp = 0x20000600;
  on_psp = false;
  protection = record { handler = false; unprivileged = false; mpu = at_reset 8 };
  status = record { shcsr = 0; cfsr = 0x82; mmfar = 0 };
  ram = ram;
}

abbrev pub zeros : List ℕ
zeros = replicate 16 0

abbrev pub begin : Core
begin = core (0 ∷ 1 ∷ 2 ∷ 3 ∷ 4 ∷ 5 ∷ 6 ∷ 7 ∷ []) zeros

abbrev pub unprivileged : Core
unprivileged = record begin { protection = record { handler = false; unprivileged = true; mpu = at_reset 8 } }

-- three times 7, by a loop of at most so many turns
abbrev pub times_seven : (most : ℕ) → PrivilegedSteps
times_seven most = Const 0 0 ▸ Const 1 3 ▸ Const 2 7 ▸ Repeat 1 most (Alu Add 0 0 2 ▸ End) ▸ End

-- r3 where r1 is below r2, else the end
abbrev pub chooses : PrivilegedSteps
chooses = Test Ult 1 2 (Copy 4 3 ▸ End) (Halt 9 ▸ End) ▸ Copy 5 3 ▸ End

pub record ComputesSteps : Type 0 where
  pub loops : does (times_seven 5) begin ≡ Went (core (21 ∷ 0 ∷ 7 ∷ 3 ∷ 4 ∷ 5 ∷ 6 ∷ 7 ∷ []) zeros)
  -- nothing is claimed of a loop with more turns than it may have
  pub loops_too_often : does (times_seven 2) begin ≡ Unclaimed
  pub tests_true : does chooses begin ≡ Went (core (0 ∷ 1 ∷ 2 ∷ 3 ∷ 3 ∷ 3 ∷ 6 ∷ 7 ∷ []) zeros)
  pub tests_false : does (Const 2 1 ▸ chooses) begin ≡ Halted 9 (core (0 ∷ 1 ∷ 1 ∷ 3 ∷ 4 ∷ 5 ∷ 6 ∷ 7 ∷ []) zeros)
  pub operations :
      does (Alu Sub 0 1 2 ▸ Alu And 3 6 3 ▸ Alu Or 4 4 1 ▸ Alu Shl 1 7 2 ▸ Alu Shr 2 7 2 ▸ End) begin
      ≡ Went (core (0xFFFFFFFF ∷ 28 ∷ 1 ∷ 2 ∷ 5 ∷ 5 ∷ 6 ∷ 7 ∷ []) zeros)
  -- bytes and halfwords are widened with zeros; a store keeps the bytes beside it
  pub transfers :
      does (Const 0 0x20000000 ▸ Const 1 0x12345678 ▸ Store Word 1 0 1 ▸ Load Half 2 0 3 ▸ Load Byte 3 0 5 ▸ Store Byte 2 0 4 ▸ End) begin
      ≡ Went (core (0x20000000 ∷ 0x12345678 ∷ 0x1234 ∷ 0x56 ∷ 4 ∷ 5 ∷ 6 ∷ 7 ∷ []) (0 ∷ 0 ∷ 0 ∷ 0 ∷ 0x34 ∷ 0x56 ∷ 0x34 ∷ 0x12 ∷ replicate 8 0))
  pub loads_flash : does (Const 0 0x08001000 ▸ Load Half 1 0 1 ▸ End) begin ≡ Went (core (0x08001000 ∷ 0xDF00 ∷ 2 ∷ 3 ∷ 4 ∷ 5 ∷ 6 ∷ 7 ∷ []) zeros)
  pub stores_flash : does (Const 0 0x08001000 ▸ Store Half 1 0 1 ▸ End) begin ≡ Stopped Bus (core (0x08001000 ∷ 1 ∷ 2 ∷ 3 ∷ 4 ∷ 5 ∷ 6 ∷ 7 ∷ []) zeros)
  pub unaligned : does (Load Word 3 2 0 ▸ End) begin ≡ Stopped Unaligned begin
  -- a one written to a bit of CFSR clears it
  pub clears_status :
      does (Const 0 CFSR ▸ Load Word 1 0 0 ▸ Store Word 1 0 0 ▸ End) begin
      ≡ Went (record (core (CFSR ∷ 0x82 ∷ 2 ∷ 3 ∷ 4 ∷ 5 ∷ 6 ∷ 7 ∷ []) zeros) { status = record { shcsr = 0; cfsr = 0; mmfar = 0 } })
  pub moves_psp :
      does (ReadPsp 0 ▸ WritePsp 7 ▸ End) begin
      ≡ Went (record (core (0x20000600 ∷ 1 ∷ 2 ∷ 3 ∷ 4 ∷ 5 ∷ 6 ∷ 7 ∷ []) zeros) { other_sp = 4 })
  pub unprivileged_reads : does (ReadPsp 0 ▸ End) unprivileged ≡ Unclaimed
  -- 3 to CONTROL: unprivileged on the process stack
  pub goes_over :
      does (WriteControl 3 ▸ Go 4 5 ▸ End) begin
      ≡ AtBranch 4 5 (record unprivileged { sp = 0x20000600; other_sp = 0x20000400; on_psp = true })
  pub returns : does (Return ▸ Copy 0 1 ▸ End) begin ≡ AtReturn begin

-- the code has these halfwords, and as many bytes as are counted
pub record IsCode (s : PrivilegedSteps) (bytes : List ℕ) (size : ℕ) : Type 0 where
  pub code_is : code_bytes (code s) ≡ bytes
  pub length_is : code_length s ≡ size

pub record ComputesCode : Type 0 where
  -- MOVW r3, #0x1234; MOVT r3, #0xABCD
  pub constant : IsCode (Const 3 0xABCD1234 ▸ End) (0x41 ∷ 0xF2 ∷ 0x34 ∷ 0x23 ∷ 0xCA ∷ 0xF6 ∷ 0xCD ∷ 0x33 ∷ []) 8
  -- ADDS r0, r1, r2
  pub sum : IsCode (Alu Add 0 1 2 ▸ End) (0x88 ∷ 0x18 ∷ []) 2
  -- LSLS r0, r1; MOV r2, r0, LSLS r2, r1; MOV r12, r0, LSLS r0, r1, MOV r1, r0, MOV r0, r12
  pub first_operand : IsCode (Alu Shl 0 0 1 ▸ End) (0x88 ∷ 0x40 ∷ []) 2
  pub other_register : IsCode (Alu Shl 2 0 1 ▸ End) (0x02 ∷ 0x46 ∷ 0x8A ∷ 0x40 ∷ []) 4
  pub second_operand : IsCode (Alu Shl 1 0 1 ▸ End) (0x84 ∷ 0x46 ∷ 0x88 ∷ 0x40 ∷ 0x01 ∷ 0x46 ∷ 0x60 ∷ 0x46 ∷ []) 8
  -- CMP r1, r2; BLO to the first side; B.W to the second; BKPT #1; B.W behind it; BKPT #2
  pub test :
      IsCode (Test Ult 1 2 (Halt 1 ▸ End) (Halt 2 ▸ End) ▸ End)
      (0x91 ∷ 0x42 ∷ 0x01 ∷ 0xD3 ∷ 0x00 ∷ 0xF0 ∷ 0x03 ∷ 0xB8 ∷ 0x01 ∷ 0xBE ∷ 0x00 ∷ 0xF0 ∷ 0x01 ∷ 0xB8 ∷ 0x02 ∷ 0xBE ∷ [])
      16
  -- CMP r1, #0; BNE to the body; B.W behind the loop; NOP-like MOV r0, r0; SUBS r1, #1; B.W to CMP, 16 bytes back
  pub loop :
      IsCode (Repeat 1 5 (Copy 0 0 ▸ End) ▸ End)
      (0x00 ∷ 0x29 ∷ 0x01 ∷ 0xD1 ∷ 0x00 ∷ 0xF0 ∷ 0x04 ∷ 0xB8 ∷ 0x00 ∷ 0x46 ∷ 0x01 ∷ 0x39 ∷ 0xFF ∷ 0xF7 ∷ 0xF8 ∷ 0xBF ∷ [])
      16
  -- MRS r0, PSP; MSR PSP, r0; MSR CONTROL, r0, ISB
  pub special : IsCode (ReadPsp 0 ▸ WritePsp 0 ▸ End) (0xEF ∷ 0xF3 ∷ 0x09 ∷ 0x80 ∷ 0x80 ∷ 0xF3 ∷ 0x09 ∷ 0x88 ∷ []) 8
  pub control : IsCode (WriteControl 0 ▸ End) (0x80 ∷ 0xF3 ∷ 0x14 ∷ 0x88 ∷ 0xBF ∷ 0xF3 ∷ 0x6F ∷ 0x8F ∷ []) 8
  -- DSB, ISB, BX LR; MOV LR, r5, BX r4
  pub return : IsCode (Return ▸ End) (0xBF ∷ 0xF3 ∷ 0x4F ∷ 0x8F ∷ 0xBF ∷ 0xF3 ∷ 0x6F ∷ 0x8F ∷ 0x70 ∷ 0x47 ∷ []) 10
  pub branch : IsCode (Go 4 5 ▸ End) (0xAE ∷ 0x46 ∷ 0x20 ∷ 0x47 ∷ []) 4
  -- three turns of eight steps, and three for the last test, behind three constants
  pub steps_of_loop : ticks by_mpu image (times_seven 5) begin ≡ 33
  pub most_of_loop : most_ticks (times_seven 5) ≡ 49

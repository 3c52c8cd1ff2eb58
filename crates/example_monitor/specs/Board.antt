-- Beyond the program's claim: only laws, proofs and functions inside the tool cite this file.
-- The small board's memories, and the state in which a handler begins there.
use Rattle.std.specs.Prelude.{ℕ, ◌-◌, List, [], ◌∷◌, ◌++◌, true, false, Option, Some, None, replicate, drop}
use Rattle.base_words.specs.Bytes.{write_all, read}
use Rattle.machine_protection.specs.declared.region.Region.{Region}
use Rattle.machine_protection.specs.Registers.{blank}
use Rattle.machine_devices.specs.declared.image.Image.{Image}
use Rattle.machine_model.specs.State.{by_mpu}
use Rattle.machine_model.specs.Stack.{words_at}
use Rattle.monitor_steps.specs.Steps.{PrivilegedSteps}
use Rattle.monitor_steps.specs.Core.{Core}
use Rattle.monitor_steps.specs.Effect.{Outcome, effect, Went, Halted, AtReturn, AtBranch, Stopped, Unclaimed}
use Rattle.monitor_program.specs.Page.{bytes_of_words}
use Rattle.example_monitor.specs.Sample.{region}

-- NOP and SVC #0; 0, the number of the site, and SVC #1; SVC #2 and SVC #3; SVC #4 and STR r0, [r1, #0]; LDR r0, [r1, #0]
abbrev pub instructions : List ℕ
instructions = 0xDF00BF00 ∷ 0xDF010000 ∷ 0xDF03DF02 ∷ 0x6008DF04 ∷ 0x00006808 ∷ 0 ∷ 0 ∷ 0 ∷ []

-- the records of the compartments, the site, its target and the lendable local of the sample with four slots
abbrev pub records : List ℕ
records =
    0x08002012 ∷ 0x0602000F ∷ 0x20000614 ∷ 0x13060009 ∷ 21 ∷ 0 ∷ 22 ∷ 0 ∷ 23 ∷ 0 ∷ 0 ∷ 0
    ∷ 0x08002112 ∷ 0x0602000F ∷ 20 ∷ 0 ∷ 21 ∷ 0 ∷ 22 ∷ 0 ∷ 23 ∷ 0 ∷ 1 ∷ 1
    ∷ 0x08001004 ∷ 0 ∷ 1
    ∷ 0x08002101 ∷ 1
    ∷ 8
    ∷ []

-- flash behind the first 4,096 bytes, with instructions in place of the words that tell of the records
abbrev pub image : Image
image = record {
  flash_base = 0x08001000;
  flash = bytes_of_words (instructions ++ records);
  ram_base = 0x20000000;
  ram_size = 1568;
  monitor = 0x20000000;
  stack_base = 0x20000400;
  stack_size = 512;
  regions = 8;
  closed = false;
  windows = [];
}

-- what a list does there
abbrev pub does : PrivilegedSteps → Core → Outcome
does s c = effect by_mpu image s c

-- RAM with the words of the monitor's block, its loans, and the frame at PSP
abbrev pub ram : (block loans : List ℕ) → (psp : ℕ) → (frame : List ℕ) → List ℕ
ram block loans psp frame = write_all 4 (psp - 0x20000000) frame (write_all 4 160 loans (write_all 4 0 block (replicate 1568 0)))

-- Handler mode on the main stack; the thread is unprivileged, and the protection unit is on
abbrev pub core : (cfsr psp : ℕ) → (ram : List ℕ) → Core
core cfsr psp ram = record {
  low = 1 ∷ 2 ∷ 3 ∷ 4 ∷ 5 ∷ 6 ∷ 7 ∷ 8 ∷ [];
  sp = 0x20000400;
  other_sp = psp;
  on_psp = false;
  protection = record { handler = true; unprivileged = true; mpu = record { control = 5; number = 0; regions = replicate 8 blank } };
  status = record { shcsr = 0x10000; cfsr = cfsr; mmfar = 0 };
  ram = ram;
}

-- what stands in memory and in the registers of the system where a handler returns: CUR, TOP, DEPTH, LOANS and MARK; the first
-- saved entry; the first loan; the frame at PSP; and the regions from 2 on
pub record Seen : Type 0 where
  pub block : List ℕ
  pub saved : List ℕ
  pub loan : List ℕ
  pub psp : ℕ
  pub frame : List ℕ
  pub control : ℕ
  pub cfsr : ℕ
  pub regions : List Region

abbrev pub seen : Core → Seen
seen c = record {
  block = words_at 5 0 c.ram;
  saved = words_at 4 32 c.ram;
  loan = words_at 3 160 c.ram;
  psp = c.other_sp;
  frame = words_at 8 (c.other_sp - 0x20000000) c.ram;
  control = c.protection.mpu.control;
  cfsr = c.status.cfsr;
  regions = drop 2 c.protection.mpu.regions;
}

abbrev pub returned : Outcome → Option Seen
returned (Went c) = None
returned (Halted n c) = None
returned (AtReturn c) = Some (seen c)
returned (AtBranch to link c) = None
returned (Stopped r c) = None
returned Unclaimed = None

abbrev pub halted : Outcome → Option ℕ
halted (Went c) = None
halted (Halted n c) = Some n
halted (AtReturn c) = None
halted (AtBranch to link c) = None
halted (Stopped r c) = None
halted Unclaimed = None

-- the word of RAM at an address, where a handler returns
abbrev pub word_behind : (address : ℕ) → Outcome → Option ℕ
word_behind a (Went c) = None
word_behind a (Halted n c) = None
word_behind a (AtReturn c) = Some (read 4 (a - 0x20000000) c.ram)
word_behind a (AtBranch to link c) = None
word_behind a (Stopped r c) = None
word_behind a Unclaimed = None

-- the regions of the two compartments, the stack's with so many eighths taken out
abbrev pub first_regions : (srd : ℕ) → List Region
first_regions srd =
    region 0x08002000 0x0602000F ∷ region 0x20000400 srd ∷ region 0x20000600 0x13060009 ∷ region 0 0 ∷ region 0 0 ∷ region 0 0 ∷ []

abbrev pub second_regions : (srd : ℕ) → List Region
second_regions srd =
    region 0x08002100 0x0602000F ∷ region 0x20000400 srd ∷ region 0 0 ∷ region 0 0 ∷ region 0 0 ∷ region 0 0 ∷ []

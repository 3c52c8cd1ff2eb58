-- Beyond the program's claim: only laws, proofs and functions inside the tool cite this file.
-- What the handlers do on the small board.
use Rattle.std.specs.Prelude.{◌≡◌, ℕ, List, [], ◌∷◌, false, Some, replicate}
use Rattle.machine_protection.specs.Registers.{blank, at_reset}
use Rattle.monitor_steps.specs.Core.{Core}
use Rattle.monitor_program.specs.Svc.{svc}
use Rattle.monitor_program.specs.MemFault.{memfault}
use Rattle.monitor_program.specs.Reset.{reset}
use Rattle.example_monitor.specs.Sample.{four_open, four_closed, twelve_open}
use Rattle.example_monitor.specs.Board.{does, ram, core, returned, halted, word_behind, first_regions, second_regions}

-- the first compartment runs, with the whole stack; the second was entered by it; and lent words
abbrev pub first_runs : List ℕ
first_runs = 0 ∷ 0x20000600 ∷ 0 ∷ 0 ∷ 0 ∷ []

abbrev pub second_runs : (loans mark : ℕ) → List ℕ
second_runs loans mark = 1 ∷ 0x20000580 ∷ 1 ∷ loans ∷ mark ∷ 0 ∷ 0 ∷ 0 ∷ 0x200005A0 ∷ 0 ∷ 0x20000600 ∷ 0 ∷ []

abbrev pub one_loan : List ℕ
one_loan = 0x200005C8 ∷ 0x200005D0 ∷ 0 ∷ []

-- r0, r1, r12 and the return address of a frame
abbrev pub frame : (r0 r1 r12 return_address : ℕ) → List ℕ
frame a b e ret = a ∷ b ∷ 12 ∷ 13 ∷ e ∷ 0x1235 ∷ ret ∷ 0x01000000 ∷ []

-- ---- enter and leave

abbrev pub calls_second : Core
calls_second = core 0 0x200005A0 (ram first_runs [] 0x200005A0 (frame 10 11 0x08002101 0x08001004))

-- the leave stub's SVC #1, with 77 in r0
abbrev pub comes_back : Core
comes_back = core 0 0x20000560 (ram (second_runs 0 0) [] 0x20000560 (frame 77 0 0 0x08001008))

pub record ComputesCalls : Type 0 where
  -- TOP is PSP rounded down to 64 bytes, and the callee's frame lies below it; the leave stub stands at 0x0800093C
  pub enters :
      returned (does (svc four_open) calls_second)
      ≡ Some (record {
        block = 1 ∷ 0x20000580 ∷ 1 ∷ 0 ∷ 0 ∷ [];
        saved = 0x200005A0 ∷ 0 ∷ 0x20000600 ∷ 0 ∷ [];
        loan = 0 ∷ 0 ∷ 0 ∷ [];
        psp = 0x20000560;
        frame = 10 ∷ 11 ∷ 12 ∷ 13 ∷ 0 ∷ 0x0800093D ∷ 0x08002100 ∷ 0x01000000 ∷ [];
        control = 5;
        cfsr = 0;
        regions = second_regions 0x1306C011;
      })
  -- the caller goes on behind the halfword
  pub skips_the_number : word_behind 0x200005B8 (does (svc four_open) calls_second) ≡ Some 0x08001006
  pub leaves :
      returned (does (svc four_open) comes_back)
      ≡ Some (record {
        block = 0 ∷ 0x20000600 ∷ 0 ∷ 0 ∷ 0 ∷ [];
        saved = 0x200005A0 ∷ 0 ∷ 0x20000600 ∷ 0 ∷ [];
        loan = 0 ∷ 0 ∷ 0 ∷ [];
        psp = 0x200005A0;
        frame = 77 ∷ 0 ∷ 0 ∷ 0 ∷ 0 ∷ 0 ∷ 0 ∷ 0 ∷ [];
        control = 5;
        cfsr = 0;
        regions = first_regions 0x13060011;
      })

-- ---- lend, unlend, and accesses by a loan

abbrev pub lends_local : (address : ℕ) → Core
lends_local a = core 0 0x200005A0 (ram first_runs [] 0x200005A0 (frame a 0 0 0x0800100A))

abbrev pub takes_back : (loans : ℕ) → Core
takes_back n = core 0 0x200005A0 (ram (0 ∷ 0x20000600 ∷ 0 ∷ n ∷ 0 ∷ []) one_loan 0x200005A0 (frame 0 0 0 0x0800100C))

-- the second compartment was refused an access of the word at 0x200005CC
abbrev pub refused : (cfsr running return_address : ℕ) → Core
refused cfsr cur ret =
    core cfsr 0x20000540 (ram (cur ∷ 0x20000580 ∷ 1 ∷ 1 ∷ 1 ∷ []) one_loan 0x20000540 (frame 0xABCD 0x200005CC 0 ret))

pub record ComputesLoans : Type 0 where
  pub lends :
      returned (does (svc four_open) (lends_local 0x200005C8))
      ≡ Some (record {
        block = 0 ∷ 0x20000600 ∷ 0 ∷ 1 ∷ 0 ∷ [];
        saved = 0 ∷ 0 ∷ 0 ∷ 0 ∷ [];
        loan = one_loan;
        psp = 0x200005A0;
        frame = frame 0x200005C8 0 0 0x0800100A;
        control = 5;
        cfsr = 0;
        regions = replicate 6 blank;
      })
  pub unlends : word_behind 0x2000000C (does (svc four_open) (takes_back 1)) ≡ Some 0
  pub stores : word_behind 0x200005CC (does (memfault four_open) (refused 0x82 1 0x0800100E)) ≡ Some 0xABCD
  pub goes_on_behind :
      returned (does (memfault four_open) (refused 0x82 1 0x0800100E))
      ≡ Some (record {
        block = 1 ∷ 0x20000580 ∷ 1 ∷ 1 ∷ 1 ∷ [];
        saved = 0 ∷ 0 ∷ 0 ∷ 0 ∷ [];
        loan = one_loan;
        psp = 0x20000540;
        frame = frame 0xABCD 0x200005CC 0 0x08001010;
        control = 5;
        cfsr = 0;
        regions = replicate 6 blank;
      })
  -- on a closed board a load by a loan goes into the stacked r0
  pub loads : word_behind 0x20000540 (does (memfault four_closed) (refused 0x82 1 0x08001010)) ≡ Some 0

-- ---- halts

-- what a reset leaves to start-up, on a unit of so many regions
abbrev pub starts_on : (regions : ℕ) → Core
starts_on n =
    record (core 0 0 (replicate 1568 0xA5)) {
      protection = record { handler = false; unprivileged = false; mpu = at_reset n };
    }

pub record ComputesHalts : Type 0 where
  -- a return with no entry saved
  pub ends : halted (does (svc four_open) (core 0 0x200005A0 (ram first_runs [] 0x200005A0 (frame 0 0 0 0x08001008)))) ≡ Some 0
  -- SVC #4
  pub number : halted (does (svc four_open) (core 0 0x200005A0 (ram first_runs [] 0x200005A0 (frame 0 0 0 0x0800100E)))) ≡ Some 1
  -- a site that is none of the tables'
  pub site : halted (does (svc (record four_open { sites = 0 })) calls_second) ≡ Some 2
  -- an entry that is none of the site's targets
  pub target : halted (does (svc four_open) (core 0 0x200005A0 (ram first_runs [] 0x200005A0 (frame 10 11 0x08002105 0x08001004)))) ≡ Some 3
  -- PSP below the stack; a frame that reaches TOP; a frame with padding
  pub below : halted (does (svc four_open) (core 0 0x200003F8 (ram first_runs [] 0x200005A0 (frame 0 0 0 0x08001004)))) ≡ Some 4
  pub above : halted (does (svc four_open) (core 0 0x200005E8 (ram first_runs [] 0x200005A0 (frame 0 0 0 0x08001004)))) ≡ Some 4
  pub padded : halted (does (memfault four_open) (core 0x82 0x200005A0 (ram first_runs [] 0x200005A0 (0 ∷ 0 ∷ 0 ∷ 0 ∷ 0 ∷ 0 ∷ 0x0800100E ∷ 0x01000200 ∷ [])))) ≡ Some 4
  -- less than an eighth of the stack is left
  pub full : halted (does (svc four_open) (core 0 0x20000420 (ram first_runs [] 0x20000420 (frame 10 11 0x08002101 0x08001004)))) ≡ Some 5
  -- a local at no multiple of 4; one that ends behind TOP; no loan to take back
  pub unaligned : halted (does (svc four_open) (lends_local 0x200005CA)) ≡ Some 6
  pub too_long : halted (does (svc four_open) (lends_local 0x200005FC)) ≡ Some 6
  pub none : halted (does (svc four_open) (takes_back 0)) ≡ Some 6
  -- the first compartment has the loan's number in no mask
  pub store : halted (does (memfault four_open) (refused 0x82 0 0x0800100E)) ≡ Some 7
  pub load : halted (does (memfault four_closed) (refused 0x82 0 0x08001010)) ≡ Some 9
  -- a fault without an address; a load on an open board
  pub fetch : halted (does (memfault four_open) (refused 0x01 1 0x0800100E)) ≡ Some 8
  pub open_load : halted (does (memfault four_open) (refused 0x82 1 0x08001010)) ≡ Some 8
  -- no protection unit; one of 16 regions, and for tables of 12 slots one of 8
  pub no_unit : halted (does (reset four_open) (starts_on 0)) ≡ Some 10
  pub larger_unit : halted (does (reset four_open) (starts_on 16)) ≡ Some 10
  pub smaller_unit : halted (does (reset twelve_open) (starts_on 8)) ≡ Some 10

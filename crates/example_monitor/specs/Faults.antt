-- Beyond the program's claim: only laws, proofs and functions inside the tool cite this file.
-- What the handler of MemManage comes to, computed.
use Rattle.std.specs.Prelude.{◌≡◌, ℕ, List, [], ◌∷◌, ◌++◌, true, replicate}
use Rattle.monitor_model.specs.declared.tables.Tables.{Tables}
use Rattle.monitor_model.specs.Block.{MonitorBlock}
use Rattle.monitor_model.specs.Outcomes.{Outcome, Halts, Resumes}
use Rattle.monitor_model.specs.FaultOutcome.{fault_outcome}
use Rattle.monitor_program.specs.Page.{bytes_of_words}
use Rattle.example_monitor.specs.LentImage.{tables, image}
use Rattle.example_monitor.specs.Stack.{frame_of, two_calls}

-- the stack with a frame at 0x200005C0 of an access by r0 at r1, and a word at 0x200007E8
abbrev pub accessing : (r0 r1 return_address word : ℕ) → List ℕ
accessing r0 r1 ret w = bytes_of_words (replicate 368 0 ++ (frame_of r0 r1 0 ret ++ (replicate 130 0 ++ w ∷ replicate 5 0)))

-- compartment 2 stores to main's word: STR r0,[r1,#0] is 0x6008
abbrev pub fault_by : Tables → MonitorBlock → (memory : List ℕ) → (cfsr half : ℕ) → Outcome
fault_by t m memory c h = fault_outcome image t m 0x200005C0 memory c h

abbrev pub fault_of : MonitorBlock → (address cfsr half : ℕ) → Outcome
fault_of m a c h = fault_by tables m (accessing 42 a 0x080020BA 9) c h

-- a closed board, where compartment 2 may load the word too
abbrev pub closed : Tables
closed = record tables {
  closed = true;
  comps = record { code = record { rbar = 0; rasr = 0 }; slots = []; mask = 0; reads = 0 } ∷ record { code = record { rbar = 0; rasr = 0 }; slots = []; mask = 1; reads = 0 }
      ∷ record { code = record { rbar = 0; rasr = 0 }; slots = []; mask = 0; reads = 1 } ∷ [];
}

pub record ComputesFaults : Type 0 where
  pub stores : fault_of two_calls 0x200007E8 0x82 0x6008 ≡ Resumes two_calls 0x200005C0 (accessing 42 0x200007E8 0x080020BC 42)
  -- STRB of the last byte, and STRH of the upper half, of the low byte and half of r0
  pub stores_byte : fault_by tables two_calls (accessing 0x12345678 0x200007EB 0x080020BA 9) 0x82 0x7008 ≡ Resumes two_calls 0x200005C0 (accessing 0x12345678 0x200007EB 0x080020BC 0x78000009)
  pub stores_half : fault_by tables two_calls (accessing 0x12345678 0x200007EA 0x080020BA 9) 0x82 0x8008 ≡ Resumes two_calls 0x200005C0 (accessing 0x12345678 0x200007EA 0x080020BC 0x56780009)
  -- beside the loan, half beside it, in another compartment, and without a loan
  pub beside : fault_of two_calls 0x200007EC 0x82 0x6008 ≡ Halts 7
  pub before : fault_of two_calls 0x200007E4 0x82 0x6008 ≡ Halts 7
  pub half_beside : fault_of two_calls 0x200007EA 0x82 0x6008 ≡ Halts 7
  pub near_the_end : fault_of two_calls 0xFFFFFFFC 0x82 0x6008 ≡ Halts 7
  pub not_its_own : fault_of (record two_calls { current = 1 }) 0x200007E8 0x82 0x6008 ≡ Halts 7
  pub not_lent : fault_of (record two_calls { loans = [] }) 0x200007E8 0x82 0x6008 ≡ Halts 7
  -- a refused fetch, another instruction, and a load on an open board
  pub fetch : fault_of two_calls 0x200007E8 1 0x6008 ≡ Halts 8
  pub other : fault_of two_calls 0x200007E8 0x82 0x6048 ≡ Halts 8
  pub load : fault_of two_calls 0x200007E8 0x82 0x6808 ≡ Halts 8
  -- a frame above TOP
  pub closed_stack : fault_of (record two_calls { top = 0x20000500 }) 0x200007E8 0x82 0x6008 ≡ Halts 4
  -- on the closed board: LDR, LDRB, LDRH by the read mask; stores by the other mask, and loads not by that
  pub loads : fault_by closed two_calls (accessing 42 0x200007E8 0x080020BA 0x12345678) 0x82 0x6808 ≡ Resumes two_calls 0x200005C0 (accessing 0x12345678 0x200007E8 0x080020BC 0x12345678)
  pub loads_byte : fault_by closed two_calls (accessing 42 0x200007EB 0x080020BA 0x92345678) 0x82 0x7808 ≡ Resumes two_calls 0x200005C0 (accessing 0x92 0x200007EB 0x080020BC 0x92345678)
  pub loads_half : fault_by closed two_calls (accessing 42 0x200007E8 0x080020BA 0x1234F678) 0x82 0x8808 ≡ Resumes two_calls 0x200005C0 (accessing 0xF678 0x200007E8 0x080020BC 0x1234F678)
  pub stores_not : fault_by closed two_calls (accessing 42 0x200007E8 0x080020BA 9) 0x82 0x6008 ≡ Halts 7
  pub loads_not : fault_by closed (record two_calls { current = 1 }) (accessing 42 0x200007E8 0x080020BA 9) 0x82 0x6808 ≡ Halts 9

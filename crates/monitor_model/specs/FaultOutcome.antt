-- What the handler of MemManage comes to, by its tests in their order: it makes a refused access of a lent local that the
-- running compartment may reach.
use Rattle.std.specs.Prelude.{ℕ, ◌+◌, ◌-◌, ◌%◌, Bool, ◌&&◌, List, nat_eq, nat_le, if◌then◌else◌}
use Rattle.std.specs.Int.{bit_at}
use Rattle.std.specs.List.{list_any}
use Rattle.base_words.specs.Bytes.{read, write}
use Rattle.machine_devices.specs.declared.image.Image.{Image}
use Rattle.monitor_model.specs.declared.tables.Tables.{Tables}
use Rattle.monitor_model.specs.Records.{compartment_at}
use Rattle.monitor_model.specs.Block.{Loan, MonitorBlock}
use Rattle.monitor_model.specs.Halts.{halt_stack, halt_store, halt_fault, halt_load}
use Rattle.monitor_model.specs.Outcomes.{Outcome, Halts, StopsUnaligned, Resumes, stacked, with_stacked, moved_on, is_open}

-- the loan holds so many bytes from an address on, and its number is in a mask
abbrev pub covers : (mask address width : ℕ) → Loan → Bool
covers mask a w l = nat_eq (bit_at mask l.number) 1 && (nat_le l.address a && nat_le (a + w) l.end)

abbrev pub is_lent : (mask address width : ℕ) → List Loan → Bool
is_lent mask a w ls = list_any (covers mask a w) ls

-- of the block, the stack pointer behind the entry, and RAM behind it
module _ (i : Image) (t : Tables) (m : MonitorBlock) (psp : ℕ) (memory : List ℕ) where
  -- r0 is the value, r1 the address
  abbrev pub value : ℕ
  value = stacked i psp memory 0

  abbrev pub address : ℕ
  address = stacked i psp memory 1

  -- the machine makes an access at multiples of its width alone
  abbrev pub if_aligned : (width : ℕ) → Outcome → Outcome
  if_aligned w outcome = if nat_eq (address % w) 0 then outcome else StopsUnaligned

  -- the return address rises from what the store made of it, where the store reaches the frame itself
  abbrev pub emulated_store : (width : ℕ) → Outcome
  emulated_store w =
      if is_lent (compartment_at t m.current).mask address w m.loans then
      if_aligned w (Resumes m psp (moved_on i psp (write w (address - i.ram_base) value memory)))
      else Halts halt_store

  -- what was read goes to r0, widened with zeros
  abbrev pub emulated_load : (width : ℕ) → Outcome
  emulated_load w =
      if is_lent (compartment_at t m.current).reads address w m.loans then
      if_aligned w (Resumes m psp (moved_on i psp (with_stacked i psp 0 (read w (address - i.ram_base) memory) memory)))
      else Halts halt_load

  -- STR, STRB, STRH r0,[r1,#0] are 0x6008, 0x7008, 0x8008; on a closed board LDR, LDRB, LDRH r0,[r1,#0] too
  abbrev pub by_half : (half : ℕ) → Outcome
  by_half h =
      if nat_eq h 0x6008 then emulated_store 4
      else if nat_eq h 0x7008 then emulated_store 1
      else if nat_eq h 0x8008 then emulated_store 2
      else if t.closed && nat_eq h 0x6808 then emulated_load 4
      else if t.closed && nat_eq h 0x7808 then emulated_load 1
      else if t.closed && nat_eq h 0x8808 then emulated_load 2
      else Halts halt_fault

  -- DACCVIOL and MMARVALID are bits 1 and 7 of CFSR
  abbrev pub is_data_fault : (cfsr : ℕ) → Bool
  is_data_fault c = nat_eq (bit_at c 1) 1 && nat_eq (bit_at c 7) 1

  -- of CFSR, and of the halfword at the return address
  unfoldable pub fault_outcome : (cfsr half : ℕ) → Outcome
  fault_outcome c h = if is_open i t m psp memory then (if is_data_fault c then by_half h else Halts halt_fault) else Halts halt_stack

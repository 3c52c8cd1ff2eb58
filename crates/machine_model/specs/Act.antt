-- What an instruction asks for, as data. It names neither protection nor memory: one function performs it.
use Rattle.std.specs.Prelude.{ℕ, List, Option}
use Rattle.machine_model.specs.declared.state.CoreRegisters.{CoreRegisters}
use Rattle.machine_model.specs.declared.state.StopReason.{StopReason}

pub data Act : Type 0 where
  -- the registers change
  Changes : (core : CoreRegisters) → Act
  -- a load, whose value gives the registers
  Loads : (width address : ℕ) (core : ℕ → CoreRegisters) → Act
  -- a store, and the registers after it
  Stores : (width address value : ℕ) (core : CoreRegisters) → Act
  -- loads of so many words one after another; the registers, or no proper branch
  LoadsMany : (address count : ℕ) (core : List ℕ → Option CoreRegisters) → Act
  -- stores of these words one after another
  StoresMany : (address : ℕ) (values : List ℕ) (core : CoreRegisters) → Act
  -- MRS: a special register into a register; then the registers
  GetsSpecial : (special to : ℕ) (core : CoreRegisters) → Act
  -- MSR
  SetsSpecial : (special value : ℕ) (core : CoreRegisters) → Act
  -- BX: a branch or an exception return
  Exchanges : (target : ℕ) → Act
  -- SVC, with the address behind it
  Calls : (next : ℕ) → Act
  -- BKPT
  Halts : (number : ℕ) → Act
  Stops : (reason : StopReason) → Act

-- What holds at the beginning of each step of a thread, whatever it executes. Confinement of all code and the simulation of
-- source runs rest on this one invariant.
use Rattle.std.specs.Prelude.{◌≡◌, ℕ, ◌+◌, ◌*◌, ◌%◌, ◌<◌, ◌≤◌, List, [], ◌∷◌, length, true, false}
use Rattle.machine_devices.specs.declared.image.Image.{Image}
use Rattle.machine_devices.specs.Rules.{block_size}
use Rattle.machine_model.specs.State.{State}
use Rattle.machine_model.specs.RunningCode.{Context}
use Rattle.machine_model.specs.Shape.{StateFits}
use Rattle.base_laws.specs.Lists.{Each}
use Rattle.monitor_model.specs.declared.tables.Tables.{Tables}
use Rattle.monitor_model.specs.Records.{eighth, stack_end, lend_size}
use Rattle.monitor_model.specs.Regions.{regions_for}
use Rattle.monitor_model.specs.Block.{Loan, Saved, MonitorBlock}
use Rattle.monitor_model.specs.BlockWords.{IsBlock}

-- ---- of the block

-- a whole number of eighths above the stack's base, not 0, and at least so many below its end
abbrev pub IsTop : Tables → (below top : ℕ) → Type 0
IsTop t n p = (k : ℕ) × (p ≡ t.stack.base + k * eighth t) × (0 < k) × (k + n ≤ 8)

-- the frame that waits lies in its caller's part of the stack, above all that was opened later; `number` counts the older
-- entries, and TOP and MARK are those that followed
pub record IsSaved (t : Tables) (number top mark : ℕ) (e : Saved) : Type 0 where
  pub is_top : IsTop t number e.top
  pub aligned : e.psp % 8 ≡ 0
  pub from_base : t.stack.base ≤ e.psp
  pub inside : e.psp + 32 ≤ e.top
  pub above : top ≤ e.psp
  pub marks_rise : e.mark ≤ mark
  pub current_in : e.current < length t.comps

abbrev pub AreSaved : Tables → (top mark : ℕ) → List Saved → Type 0
AreSaved t top mark [] = Unit {0}
AreSaved t top mark (e ∷ es) = IsSaved t (length es) top mark e × AreSaved t e.top e.mark es

-- a loan lies in the stack and has the size of its number
pub record IsLoan (t : Tables) (l : Loan) : Type 0 where
  pub aligned : l.address % 4 ≡ 0
  pub from_base : t.stack.base ≤ l.address
  pub below_end : l.end ≤ stack_end t
  pub number_in : l.number < length t.lends
  pub size : l.end ≡ l.address + lend_size t l.number

pub record IsOrderly (t : Tables) (m : MonitorBlock) : Type 0 where
  pub current_in : m.current < length t.comps
  pub is_top : IsTop t (length m.saved) m.top
  pub saved : AreSaved t m.top m.mark m.saved
  pub marks : m.mark ≤ length m.loans
  pub few : length m.loans ≤ 32
  pub loans : Each (IsLoan t) m.loans

-- ---- of a thread's state

-- of what an instruction seldom changes, and of RAM; no other register matters
pub record Invariant (i : Image) (t : Tables) (m : MonitorBlock) (x : Context) (ram : List ℕ) : Type 0 where
  pub is_block : IsBlock i t ram m
  pub orderly : IsOrderly t m
  pub thread : x.protection.handler ≡ false
  pub unprivileged : x.protection.unprivileged ≡ true
  pub on_psp : x.on_psp ≡ true
  -- MPU_CTRL has ENABLE and PRIVDEFENA
  pub control : x.protection.mpu.control ≡ 5
  pub regions : x.protection.mpu.regions ≡ regions_for i t m.current m.top
  pub no_fault : x.status.cfsr ≡ 0
  -- SHCSR.MEMFAULTENA
  pub enabled : x.status.shcsr ≡ 0x10000
  pub msp : x.other_sp ≡ t.monitor + block_size
  pub high_five : length x.high ≡ 5
  pub as_long : length ram ≡ i.ram_size

abbrev pub context_of : State → Context
context_of s =
    record { high = s.core.high; other_sp = s.core.other_sp; on_psp = s.core.on_psp; protection = s.protection; status = s.status }

-- of a whole state: its registers are words too, without which nothing can be said of the code that saves and restores them,
-- and its stack pointer is a multiple of 4, so that protection decides alike about the bytes of a pushed word
pub record InvariantHolds (i : Image) (t : Tables) (m : MonitorBlock) (s : State) : Type 0 where
  pub inv : Invariant i t m (context_of s) s.ram
  pub fits : StateFits i s

-- From one step of a thread to the next: what becomes of the monitor's block, and where the thread goes on. There are seven ways.
use Rattle.std.specs.Prelude.{◌≡◌, ℕ, ◌+◌, ◌-◌, ◌*◌, ◌/◌, ◌%◌, ◌^◌, ◌<◌, ◌≤◌, List, ◌∷◌, length, true, nat_eq}
use Rattle.std.specs.Int.{bit_at}
use Rattle.base_words.specs.Arithmetic.{word}
use Rattle.base_words.specs.Bytes.{read}
use Rattle.machine_protection.specs.Protection.{IsAccessWidth}
use Rattle.machine_devices.specs.declared.image.Image.{Image}
use Rattle.machine_model.specs.State.{State, low_register}
use Rattle.machine_model.specs.Exceptions.{frame_at, with_pad}
use Rattle.machine_model.specs.Step.{step}
use Rattle.machine_model.specs.Confinement.{AnyOf}
use Rattle.monitor_model.specs.declared.tables.Tables.{Tables}
use Rattle.monitor_model.specs.Records.{compartment_at, lend_size, rounded}
use Rattle.monitor_model.specs.Block.{MonitorBlock, Loan, Saved, entered, left, lent, unlent}
use Rattle.monitor_model.specs.Confined.{Crosses, IsSvc}
use Rattle.monitor_model.specs.Handlers.{FrameIsOpen}

-- a live loan, whose number a mask has, holds so many bytes from an address on
abbrev pub IsLent : (mask address width : ℕ) → List Loan → Type 0
IsLent mask a w ls = AnyOf (λ (l : Loan). (bit_at mask l.number ≡ 1) × (l.address ≤ a) × (a + w ≤ l.end)) ls

-- the thread goes on as the frame says that waits there: at its return address, and with the stack pointer behind it
pub record GoesOnAt (i : Image) (ram : List ℕ) (frame : ℕ) (u : State) : Type 0 where
  pub pc : u.core.pc ≡ read 4 (frame - i.ram_base + 24) ram / 2 * 2
  pub sp : u.core.sp ≡ with_pad (nat_eq (read 4 (frame - i.ram_base + 28) ram / 2 ^ 9 % 2) 1) (word (frame + 32))

-- such a frame says that the thread of this state goes on behind an SVC and the number that follows it
pub record Waits (i : Image) (ram : List ℕ) (frame : ℕ) (s : State) : Type 0 where
  pub pc : read 4 (frame - i.ram_base + 24) ram ≡ s.core.pc + 4
  pub sp : with_pad (nat_eq (read 4 (frame - i.ram_base + 28) ram / 2 ^ 9 % 2) 1) (word (frame + 32)) ≡ s.core.sp

module _ (i : Image) (t : Tables) (s u : State) (m : MonitorBlock) where
  -- the frame that an exception pushes, and where a callee's stack ends: there, rounded down to whole eighths
  abbrev pub frame : ℕ
  frame = frame_at s.core.sp

  abbrev pub callee_end : ℕ
  callee_end = rounded t frame

  pub data Moves : MonitorBlock → Type 0 where
    -- the compartment's own instruction
    Executes : u ≡ step i s → Moves m
    -- an access of r0 at r1 that the unit refused and that a loan allows. It goes on behind the instruction
    Stores : (width : ℕ) → IsAccessWidth width → IsLent (compartment_at t m.current).mask (low_register s.core 1) width m.loans → u.core.pc ≡ s.core.pc + 2 → Moves m
    Loads : (width : ℕ) → IsAccessWidth width → t.closed ≡ true → IsLent (compartment_at t m.current).reads (low_register s.core 1) width m.loans → u.core.pc ≡ s.core.pc + 2 → Moves m
    -- a call by a site's record, to the entry of one of its targets. The caller waits, and its callee has the stack below the frame alone
    Enters : (c : ℕ) → Crosses i t s u → FrameIsOpen i t m frame → t.stack.base < callee_end → u.core.sp ≡ callee_end → Waits i u.ram frame s → Moves (entered m c callee_end frame)
    -- the return to the call that waits last; its callee's loans end
    Leaves : (e : Saved) (es : List Saved) → m.saved ≡ e ∷ es → IsSvc i t 1 s → GoesOnAt i s.ram e.psp u → Moves (left m e es)
    -- a local is lent, which lies above the frame and below TOP and has the size of its number; and the last such loan ends
    Lends : (l : Loan) → IsSvc i t 2 s → FrameIsOpen i t m frame → length m.loans < 32 → l.number < length t.lends → l.end ≡ l.address + lend_size t l.number →
        frame + 32 ≤ l.address → l.end ≤ m.top → u.core.pc ≡ s.core.pc + 2 → Moves (lent m l)
    Unlends : (l : Loan) (ls : List Loan) → m.loans ≡ l ∷ ls → m.mark ≤ length ls → IsSvc i t 3 s → u.core.pc ≡ s.core.pc + 2 → Moves (unlent m ls)

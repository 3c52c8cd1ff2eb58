-- What confinement uses of the handlers: the steps from an exception's entry to its return, or to the machine's end.
use Rattle.std.specs.Prelude.{◌≡◌, ℕ, ◌+◌, ◌-◌, ◌%◌, ◌^◌, ◌<◌, ◌≤◌, ◌⊎◌, List, ◌∷◌, length, true, Some, None}
use Rattle.base_words.specs.Runs.{run}
use Rattle.machine_devices.specs.declared.image.Image.{Image}
use Rattle.machine_devices.specs.Rules.{block_size}
use Rattle.machine_bus.specs.Locations.{location, InFlash}
use Rattle.machine_model.specs.System.{in_system}
use Rattle.machine_model.specs.declared.state.FaultStatus.{FaultStatus}
use Rattle.machine_model.specs.declared.state.End.{End}
use Rattle.machine_model.specs.State.{State, by_mpu}
use Rattle.machine_model.specs.Step.{turn, step}
use Rattle.machine_model.specs.Exceptions.{mem_manage, supervisor_call, entered as entry, is_frame_open, frame_at}
use Rattle.base_laws.specs.Lists.{Each}
use Rattle.machine_model.specs.Code.{HoldsHalf}
use Rattle.monitor_model.specs.declared.tables.Tables.{Tables}
use Rattle.monitor_model.specs.Records.{rounded, lend_size}
use Rattle.monitor_model.specs.Block.{MonitorBlock, Saved, Loan, entered, left, lent, unlent}
use Rattle.monitor_model.specs.BlockWords.{depth, saved_psp, IsBlock}
use Rattle.monitor_model.specs.Reach.{AllBytes, running, InOpenStack, IsInLoan, InBlock, StoreKind, LoadKind}
use Rattle.monitor_model.specs.Confined.{IsProtected, IsSvc, Crosses}
use Rattle.monitor_model.specs.Invariant.{InvariantHolds}

-- ---- the states at a handler's first instruction

-- behind the entry of SVC: the return address is behind the instruction
abbrev pub at_svc : Image → State → State
at_svc i s = (entry true i supervisor_call (s.core.pc + 2) s.status s).to

-- behind that of MemManage, which leaves this status: the return address is the instruction's own
abbrev pub at_memfault : Image → FaultStatus → State → State
at_memfault i u s = (entry true i mem_manage s.core.pc u s).to

-- the status of a refused fetch, or of a refused data access. The instruction of a data access was fetched from flash, so the
-- handler's load of its halfword is one of flash: a closed board rests on that
abbrev pub IsFault : Image → State → FaultStatus → Type 0
IsFault i s u =
    (u ≡ record s.status { cfsr = 1 })
    ⊎ ((address half : ℕ) × (address < 2 ^ 32) × HoldsHalf i s.core.pc half × (u ≡ record s.status { cfsr = 0x82; mmfar = address }))

-- the machine has ended in Handler mode
pub record HasEndedInHandler (u : State) (e : End) : Type 0 where
  pub ending : u.ending ≡ Some e
  pub handler : u.protection.handler ≡ true

module _ (i : Image) (t : Tables) where
  -- the frame by which the call that waits last goes on
  abbrev pub InWaitingFrame : State → (address : ℕ) → Type 0
  InWaitingFrame s a =
      (0 < depth i t s.ram) × (saved_psp i t s.ram (depth i t s.ram - 1) ≤ a) × (a < saved_psp i t s.ram (depth i t s.ram - 1) + 32)

  -- all that the monitor may load for the instruction that a thread comes to at s, where the board's reads are closed. CUR, TOP, DEPTH,
  -- the saved entries and the loans are those of that state
  pub data LoadFor (s : State) (a : ℕ) : Type 0 where
    ForFlash : (o : ℕ) → location i a ≡ InFlash o → LoadFor s a
    ForBlock : InBlock t a → LoadFor s a
    ForSystem : in_system a ≡ true → LoadFor s a
    -- the stack below TOP
    ForStack : InOpenStack i t s a → LoadFor s a
    -- a live loan whose number is in the read mask of CUR
    ForLoan : (k : ℕ) → IsInLoan i t s (running i t s).reads k a → LoadFor s a
    -- and where the instruction is the SVC of a return, the frame that waits for it
    ForReturn : IsSvc i t 1 s → InWaitingFrame s a → LoadFor s a

  -- a step of a handler, for the thread's instruction at s
  pub record Handles (s u : State) : Type 0 where
    pub handler : u.protection.handler ≡ true
    pub quiet : (turn by_mpu i u).event ≡ None
    pub stores : Each (AllBytes (StoreKind i t u)) (turn by_mpu i u).stores
    pub loads : i.closed ≡ true → Each (AllBytes (LoadKind i t u)) (turn by_mpu i u).loads
    pub loads_for : i.closed ≡ true → Each (AllBytes (LoadFor s)) (turn by_mpu i u).loads

  -- so many steps at most, each of them a handler's, lead there
  pub record Leads (s : State) (most : ℕ) (from : State) (P : State → Type 0) : Type 0 where
    pub count : ℕ
    pub within : count ≤ most
    pub each : (k : ℕ) → k < count → Handles s (run (step i) k from)
    pub holds : P (run (step i) count from)

  -- the frame at a stack pointer lies in the open stack
  pub record FrameIsOpen (m : MonitorBlock) (psp : ℕ) : Type 0 where
    pub from_base : t.stack.base ≤ psp
    pub below_top : psp + 32 ≤ m.top

  -- what has become of the block when the thread goes on; the stack pointer is the one behind the entry
  pub data Change (s u : State) (m : MonitorBlock) : MonitorBlock → Type 0 where
    -- an emulated access
    Emulates : Change s u m m
    Enters : (c : ℕ) → FrameIsOpen m (frame_at s.core.sp) → t.stack.base < rounded t (frame_at s.core.sp) → c < length t.comps → Crosses i t s u →
        Change s u m (entered m c (rounded t (frame_at s.core.sp)) (frame_at s.core.sp))
    Leaves : (e : Saved) (es : List Saved) → m.saved ≡ e ∷ es → IsSvc i t 1 s → Change s u m (left m e es)
    Lends : (l : Loan) → FrameIsOpen m (frame_at s.core.sp) → length m.loans < 32 → l.number < length t.lends → l.address % 4 ≡ 0 →
        l.end ≡ l.address + lend_size t l.number → frame_at s.core.sp + 32 ≤ l.address → l.end ≤ m.top → Change s u m (lent m l)
    Unlends : (l : Loan) (ls : List Loan) → m.loans ≡ l ∷ ls → m.mark ≤ length ls → Change s u m (unlent m ls)

  -- behind the return
  pub record HasReturned (s u : State) (m : MonitorBlock) : Type 0 where
    pub block : MonitorBlock
    pub change : Change s u m block
    pub is_block : IsBlock i t u.ram block
    pub protected : IsProtected i t u
    pub no_fault : u.status.cfsr ≡ 0
    pub enabled : u.status.shcsr ≡ s.status.shcsr
    pub msp : u.core.other_sp ≡ t.monitor + block_size

  abbrev pub Handled : (s from : State) → MonitorBlock → Type 0
  Handled s from m = Leads s 16000 from (λ u. ((e : End) × HasEndedInHandler u e) ⊎ HasReturned s u m)

  -- the contract of both handlers, from any thread state of the invariant whose frame was pushed
  pub record HandlersAreConfined : Type 0 where
    pub svc : (s : State) (m : MonitorBlock) (n : ℕ) → InvariantHolds i t m s → s.ending ≡ None → n < 256 → IsSvc i t n s → is_frame_open by_mpu i s ≡ true →
        Handled s (at_svc i s) m
    pub memfault : (s : State) (m : MonitorBlock) (u : FaultStatus) → InvariantHolds i t m s → s.ending ≡ None → IsFault i s u → is_frame_open by_mpu i s ≡ true →
        Handled s (at_memfault i u s) m

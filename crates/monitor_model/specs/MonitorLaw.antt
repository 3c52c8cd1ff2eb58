-- The law of the monitor: what its handlers leave, in the words of their outcomes. The contract that confinement uses and the
-- law that the simulation uses both follow from it.
use Rattle.std.specs.Prelude.{◌≡◌, ℕ, ◌+◌, ◌-◌, ◌≤◌, ◌<◌, ◌⊎◌, Bool, true, false, List, length, None, nat_lt, if◌then◌else◌}
use Rattle.base_words.specs.Bytes.{read}
use Rattle.machine_devices.specs.declared.image.Image.{Image}
use Rattle.machine_devices.specs.Rules.{block_size}
use Rattle.machine_model.specs.declared.state.CoreRegisters.{CoreRegisters}
use Rattle.machine_model.specs.declared.state.FaultStatus.{FaultStatus}
use Rattle.machine_model.specs.declared.state.End.{End}
use Rattle.machine_model.specs.declared.state.End.TheVariants.{Halt, Stop}
use Rattle.machine_model.specs.declared.state.StopReason.TheVariants.{Bus, Unaligned, Usage}
use Rattle.machine_model.specs.State.{State, by_mpu}
use Rattle.machine_model.specs.Exceptions.{is_thread, unstacked, is_frame_open, frame_at}
use Rattle.machine_model.specs.Code.{HoldsHalf}
use Rattle.monitor_model.specs.declared.tables.Tables.{Tables}
use Rattle.monitor_model.specs.Regions.{regions_for}
use Rattle.monitor_model.specs.Block.{MonitorBlock}
use Rattle.monitor_model.specs.BlockWords.{IsBlock, words_end}
use Rattle.monitor_model.specs.Confined.{IsSvc}
use Rattle.monitor_model.specs.Invariant.{InvariantHolds}
use Rattle.monitor_model.specs.Handlers.{at_svc, at_memfault, IsFault, Leads, HasEndedInHandler}
use Rattle.monitor_model.specs.Outcomes.{Outcome, Halts, StopsAtBus, StopsUnaligned, Resumes, status_place, frame_in, stacked}
use Rattle.monitor_model.specs.SvcOutcome.{svc_outcome}
use Rattle.monitor_model.specs.FaultOutcome.{fault_outcome}

-- RAM is that of another memory, but for the monitor's block from an offset of it on
pub record IsMemory (i : Image) (t : Tables) (from : ℕ) (memory ram : List ℕ) : Type 0 where
  pub reads : (w o : ℕ) → (o + w ≤ t.monitor - i.ram_base + from) ⊎ (t.monitor - i.ram_base + block_size ≤ o) → read w o ram ≡ read w o memory
  pub as_long : length ram ≡ length memory

-- what is left of RAM, where the block was m and is b
pub record IsLeft (i : Image) (t : Tables) (m b : MonitorBlock) (memory : List ℕ) (u : State) : Type 0 where
  pub is_block : IsBlock i t u.ram b
  pub is_memory : IsMemory i t 0 memory u.ram
  -- all words of the block stay where the block stays, those too that no entry and no loan has; behind them the monitor has its stack
  pub words_stay : b ≡ m → IsMemory i t words_end memory u.ram

-- the thread behind the return
pub record GoesOn (i : Image) (t : Tables) (s u : State) (m b : MonitorBlock) (psp : ℕ) (memory : List ℕ) : Type 0 where
  pub is_left : IsLeft i t m b memory u
  -- its registers are those of the frame, and the others are the handler's, whose stack is empty
  pub handler : CoreRegisters
  pub core : u.core ≡ unstacked true handler psp (frame_in i psp memory)
  pub msp : handler.sp ≡ t.monitor + block_size
  -- the protection of its CUR and TOP; where TOP stays no region was written, and the whole unit is as before
  pub thread : u.protection.handler ≡ false
  pub unprivileged : u.protection.unprivileged ≡ true
  pub control : u.protection.mpu.control ≡ 5
  pub regions : u.protection.mpu.regions ≡ regions_for i t b.current b.top
  pub unit_stays : b.top ≡ m.top → u.protection.mpu ≡ s.protection.mpu
  pub no_fault : u.status.cfsr ≡ 0
  pub enabled : u.status.shcsr ≡ s.status.shcsr
  -- no input is taken
  pub queues : u.queues ≡ s.queues
  pub ending : u.ending ≡ None

-- the machine has ended in the handler, and this is what is left of RAM
pub record EndsThere (i : Image) (t : Tables) (m b : MonitorBlock) (memory : List ℕ) (u : State) (e : End) : Type 0 where
  pub ended : HasEndedInHandler u e
  pub is_left : IsLeft i t m b memory u

-- a frame that waits may have been overwritten, through a loan that its own compartment made of it: the return then stops
abbrev pub ReturnsBy : (thread : Bool) → Image → Tables → (s u : State) → (m b : MonitorBlock) → (psp : ℕ) → (memory : List ℕ) → Type 0
ReturnsBy true i t s u m b psp memory = GoesOn i t s u m b psp memory
ReturnsBy false i t s u m b psp memory = (pc : ℕ) × EndsThere i t m b memory u (Stop Usage pc)

-- from a thread's state, over its block and RAM behind the entry
abbrev pub Shows : Image → Tables → Outcome → (s : State) → MonitorBlock → (memory : List ℕ) → (u : State) → Type 0
Shows i t (Halts n) s m memory u = EndsThere i t m m memory u (Halt n)
Shows i t StopsAtBus s m memory u = (pc : ℕ) × EndsThere i t m m memory u (Stop Bus pc)
Shows i t StopsUnaligned s m memory u = (pc : ℕ) × EndsThere i t m m memory u (Stop Unaligned pc)
Shows i t (Resumes b psp after) s m memory u = ReturnsBy (is_thread (stacked i psp after status_place)) i t s u m b psp after

-- how many steps a handler takes at most: enter and leave, then the other SVCs, and MemManage
abbrev pub svc_steps : (number : ℕ) → ℕ
svc_steps n = if nat_lt n 2 then 4000 else 250

abbrev pub memfault_steps : ℕ
memfault_steps = 15000

-- from any thread state of the invariant whose frame was pushed; `stub` is the address of the leave stub
pub record MonitorLaw (i : Image) (t : Tables) (stub : ℕ) : Type 0 where
  pub svc : (s : State) (m : MonitorBlock) (n : ℕ) → InvariantHolds i t m s → s.ending ≡ None → n < 256 → IsSvc i t n s → is_frame_open by_mpu i s ≡ true →
      let from : State = at_svc i s in
      Leads i t s (svc_steps n) from (Shows i t (svc_outcome i t stub m (frame_at s.core.sp) from.ram n) s m from.ram)
  -- the halfword of a refused fetch does not matter
  pub memfault : (s : State) (m : MonitorBlock) (u : FaultStatus) (half : ℕ) → InvariantHolds i t m s → s.ending ≡ None → IsFault i s u →
      (u.cfsr ≡ 0x82 → HoldsHalf i s.core.pc half) → is_frame_open by_mpu i s ≡ true →
      let from : State = at_memfault i u s in
      Leads i t s memfault_steps from (Shows i t (fault_outcome i t m (frame_at s.core.sp) from.ram u.cfsr half) s m from.ram)

-- Beyond the program's claim: only laws, proofs and functions inside the tool cite this file.
-- The access law: the accesses of a compartment's code that are in its reach have the effect that they have with the protection
-- unit off. It is all that a simulation needs of the unit's regions and of the handler of MemManage.
use Rattle.std.specs.Prelude.{◌≡◌, ◌≢◌, ℕ, zero, suc, ◌+◌, ◌-◌, ◌%◌, ◌<◌, ◌≤◌, ◌⊎◌, length, Bool, true, false, Some, None}
use Rattle.std.proofs.Math.ListN.{get_or}
use Rattle.base_words.specs.Arithmetic.{word}
use Rattle.base_words.specs.Bytes.{read}
use Rattle.base_words.specs.Runs.{run}
use Rattle.machine_thumb.specs.declared.table.Instr.{Instr}
use Rattle.machine_thumb.specs.declared.table.Instr.TheVariants.{TransferImmediate}
use Rattle.machine_thumb.specs.Table.{svc}
use Rattle.machine_devices.specs.declared.image.Image.{Image}
use Rattle.machine_devices.specs.Rules.{block_size}
use Rattle.machine_bus.specs.Access.{HoldsBytes}
use Rattle.machine_model.specs.declared.state.FaultStatus.{FaultStatus}
use Rattle.machine_model.specs.declared.state.End.{End}
use Rattle.machine_model.specs.declared.state.End.TheVariants.{Stop}
use Rattle.machine_model.specs.declared.state.StopReason.TheVariants.{Unstacking}
use Rattle.machine_model.specs.State.{State, by_mpu}
use Rattle.machine_model.specs.Act.{Act, Changes, Loads, Stores, LoadsMany, StoresMany, GetsSpecial, SetsSpecial, Exchanges, Calls, Halts, Stops}
use Rattle.machine_model.specs.AccessLaw.{free}
use Rattle.machine_model.specs.Instructions.{act}
use Rattle.machine_model.specs.Code.{size, Lies}
use Rattle.machine_model.specs.Confinement.{AnyOf}
use Rattle.machine_model.specs.Exceptions.{is_frame_open}
use Rattle.machine_model.specs.Step.{turn, step, event}
use Rattle.machine_model.specs.RunningCode.{IsStore, IsLoad}
use Rattle.monitor_model.specs.declared.tables.Tables.{Tables}
use Rattle.monitor_model.specs.Block.{MonitorBlock, Loan}
use Rattle.monitor_model.specs.BlockWords.{words_end}
use Rattle.monitor_model.specs.Confined.{IsSvc}
use Rattle.monitor_model.specs.Invariant.{InvariantHolds}
use Rattle.monitor_model.specs.Handlers.{at_svc, at_memfault, IsFault, Leads}
use Rattle.monitor_model.specs.Setting.{has_code, may_store, may_load, has_loan, has_read_loan}
use Rattle.monitor_model.specs.Threads.{access_steps}

-- ---- reach without a loan

module _ (i : Image) (t : Tables) (m : MonitorBlock) where
  -- the stack below TOP
  abbrev pub InStack : (address : ℕ) → Type 0
  InStack a = (t.stack.base ≤ a) × (a < m.top)

  abbrev pub StoresTo : (address : ℕ) → Type 0
  StoresTo a = InStack a ⊎ (may_store t m.current a ≡ true)

  abbrev pub LoadsFrom : (address : ℕ) → Type 0
  LoadsFrom a = InStack a ⊎ (may_load i t m.current a ≡ true)

  -- an access is aligned, one memory or window holds all of it, and each of its bytes is in reach
  pub record InReach (Reaches : ℕ → Type 0) (width address : ℕ) : Type 0 where
    pub aligned : address % width ≡ 0
    pub whole : HoldsBytes i address width
    pub bytes : (k : ℕ) → k < width → Reaches (address + k)

  abbrev pub WordsInReach : (address count : ℕ) → Type 0
  WordsInReach a zero = Unit {0}
  WordsInReach a (suc n) = InReach InStack 4 a × WordsInReach (word (a + 4)) n

  -- all accesses that an instruction asks for; PUSH and POP reach the stack alone, and an SVC is none of these instructions
  abbrev pub IsInReach : Act → Type 0
  IsInReach (Changes c) = Unit {0}
  IsInReach (Loads w a go) = InReach LoadsFrom w a
  IsInReach (Stores w a v c) = InReach StoresTo w a
  IsInReach (LoadsMany a n go) = WordsInReach a n
  IsInReach (StoresMany a vs c) = WordsInReach a (length vs)
  IsInReach (GetsSpecial n d c) = Unit {0}
  IsInReach (SetsSpecial n v c) = Unit {0}
  IsInReach (Exchanges v) = Unit {0}
  IsInReach (Calls next) = ⊥
  IsInReach (Halts n) = Unit {0}
  IsInReach (Stops r) = Unit {0}

  -- ---- reach by loans alone: of the access at r1

  -- the process stack leaves room for the frame of an exception
  pub record StackHasRoom (s : State) : Type 0 where
    pub aligned : s.core.sp % 8 ≡ 0
    pub low : t.stack.base + 32 ≤ s.core.sp
    pub high : s.core.sp ≤ m.top

  -- live loans whose numbers a mask has hold each byte. They begin at multiples of 4, so one of them holds all of it. The frame
  -- that the fault pushes must not lie there: a load would read it, and a store would change where the thread goes on
  pub record IsLentWhole (has : ℕ → Bool) (width : ℕ) (s : State) : Type 0 where
    pub aligned : get_or s.core.low 1 0 % width ≡ 0
    pub bytes : (k : ℕ) → k < width →
        AnyOf (λ (l : Loan). (has l.number ≡ true) × (l.address ≤ get_or s.core.low 1 0 + k) × (get_or s.core.low 1 0 + k < l.end)) m.loans
    pub off_frame : (get_or s.core.low 1 0 + width + 32 ≤ s.core.sp) ⊎ (s.core.sp ≤ get_or s.core.low 1 0)
    pub room : StackHasRoom s

-- ---- effect

-- a state is as another that the instruction alone would lead to, but for r4 to r11, MMFAR, the stack below PSP, and the
-- monitor's own stack
pub record IsAlike (i : Image) (t : Tables) (v u : State) : Type 0 where
  pub low : (k : ℕ) → k < 4 → get_or u.core.low k 0 ≡ get_or v.core.low k 0
  pub r12 : get_or u.core.high 4 0 ≡ get_or v.core.high 4 0
  pub rest : u.core ≡ record v.core { low = u.core.low; high = u.core.high }
  pub protection : u.protection ≡ v.protection
  pub status : u.status ≡ record v.status { mmfar = u.status.mmfar }
  pub ram : (w a : ℕ) → i.ram_base ≤ a →
      (a + w ≤ t.stack.base) ⊎ (v.core.sp ≤ a) → (a + w ≤ t.monitor + words_end) ⊎ (t.monitor + block_size ≤ a) →
      read w (a - i.ram_base) u.ram ≡ read w (a - i.ram_base) v.ram
  pub as_long : length u.ram ≡ length v.ram
  pub queues : u.queues ≡ v.queues
  pub ending : u.ending ≡ v.ending

-- so many steps at most, without an event, lead to the instruction's effect and to the invariant again
pub record HasEffect (i : Image) (t : Tables) (m : MonitorBlock) (s : State) : Type 0 where
  pub count : ℕ
  pub within : count ≤ access_steps
  pub quiet : (k : ℕ) → k < count → event i (run (step i) k s) ≡ None
  pub alike : IsAlike i t (turn free i s).to (run (step i) count s)
  pub holds : InvariantHolds i t m (run (step i) count s)

-- the thread goes on, or the machine has ended otherwise than by a return whose frame may not be read
abbrev pub IsBehindHandler : State → Type 0
IsBehindHandler u =
    ((u.protection.handler ≡ false) × (u.ending ≡ None)) ⊎ ((e : End) × (u.ending ≡ Some e) × ((pc : ℕ) → e ≢ Stop Unstacking pc))

pub record AccessLaw (i : Image) (t : Tables) (stub : ℕ) : Type 0 where
  -- in one step, with its event, or the end that it has without protection
  pub direct : (m : MonitorBlock) (s : State) (x : Instr) → InvariantHolds i t m s → s.ending ≡ None → Lies i s.core.pc x →
      ((a : ℕ) → s.core.pc ≤ a → a < s.core.pc + size x → has_code t m.current a ≡ true) → IsInReach i t m (act x (s.core.pc + size x) s.core) →
      (turn by_mpu i s ≡ turn free i s) × ((turn by_mpu i s).to.ending ≡ None → InvariantHolds i t m (turn by_mpu i s).to)
  -- STR, STRB, STRH r0,[r1,#0], and on a closed board LDR, LDRB, LDRH r0,[r1,#0]
  pub lent_stores : (m : MonitorBlock) (s : State) (op w : ℕ) → InvariantHolds i t m s → s.ending ≡ None →
      IsStore op w → Lies i s.core.pc (TransferImmediate op 0 1 0) →
      has_code t m.current s.core.pc ≡ true → IsLentWhole i t m (has_loan t m.current) w s → HasEffect i t m s
  pub lent_loads : (m : MonitorBlock) (s : State) (op w : ℕ) → InvariantHolds i t m s → s.ending ≡ None →
      IsLoad op w → Lies i s.core.pc (TransferImmediate op 0 1 0) →
      has_code t m.current s.core.pc ≡ true → IsLentWhole i t m (has_read_loan i t m.current) w s → HasEffect i t m s
  -- an SVC of the code, or of the stub, enters the handler with its eight words pushed
  pub enters : (m : MonitorBlock) (s : State) (n : ℕ) → InvariantHolds i t m s → s.ending ≡ None → Lies i s.core.pc (svc n) →
      (has_code t m.current s.core.pc ≡ true) ⊎ (s.core.pc ≡ stub) → StackHasRoom i t m s →
      (is_frame_open by_mpu i s ≡ true) × ((turn by_mpu i s).to ≡ at_svc i s)
  -- and no handler's return stops because its frame may not be read
  pub svc_returns : (m : MonitorBlock) (s : State) (n : ℕ) → InvariantHolds i t m s → s.ending ≡ None →
      n < 256 → IsSvc i t n s → is_frame_open by_mpu i s ≡ true →
      Leads i t s access_steps (at_svc i s) IsBehindHandler
  pub memfault_returns : (m : MonitorBlock) (s : State) (u : FaultStatus) → InvariantHolds i t m s → s.ending ≡ None →
      IsFault i s u → is_frame_open by_mpu i s ≡ true →
      Leads i t s access_steps (at_memfault i u s) IsBehindHandler

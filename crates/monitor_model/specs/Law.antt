-- Beyond the program's claim: only laws, proofs and functions inside the tool cite this file.
-- The law of the monitor, in the words of a simulation of source runs: what the protection unit permits a compartment's code,
-- and what each call of the monitor comes to. Offsets are from RAM's base.
use Rattle.std.specs.Prelude.{◌≡◌, ℕ, ◌+◌, ◌-◌, ◌*◌, ◌/◌, ◌%◌, ◌^◌, ◌<◌, ◌≤◌, List, [], length, true, false, Some, nat_eq}
use Rattle.std.proofs.Math.ListN.{get_or}
use Rattle.base_words.specs.declared.conditions.Flags.{Flags}
use Rattle.base_words.specs.Bytes.{read, write}
use Rattle.machine_thumb.specs.declared.table.Instr.TheVariants.{TransferImmediate}
use Rattle.machine_thumb.specs.Table.{svc}
use Rattle.machine_protection.specs.declared.region.Access.{Access}
use Rattle.machine_protection.specs.declared.region.Access.TheVariants.{Read, Write, Fetch}
use Rattle.machine_bus.specs.Locations.{location, InRam}
use Rattle.machine_bus.specs.Memory.{compartment_of}
use Rattle.machine_model.specs.declared.state.End.TheVariants.{Halt}
use Rattle.machine_model.specs.State.{State, by_mpu}
use Rattle.machine_model.specs.Exceptions.{is_thread}
use Rattle.machine_model.specs.Code.{HoldsHalf, Runs}
use Rattle.machine_model.specs.Shape.{StateFits}
use Rattle.machine_model.specs.Reset.{IsReset}
use Rattle.machine_model.specs.RunningCode.{Context, works, IsStore, IsLoad}
use Rattle.monitor_model.specs.Block.{MonitorBlock, Loan, entered, lent}
use Rattle.monitor_model.specs.BlockWords.{words_end}
use Rattle.monitor_model.specs.Halts.{halt_end}
use Rattle.monitor_model.specs.Setting.{Setting}
use Rattle.monitor_model.specs.Threads.{call_steps, lend_steps, access_steps, base, stack_end, first_block, HasRoom, OffFrame, IsLentTo, AtInstr, Resumes, Enters, Leaves, Begins}

module _ (g : Setting) (Inv : MonitorBlock → Context → List ℕ → Type 0) where
  -- ---- the invariant itself

  pub record InvariantKeeps : Type 0 where
    -- it speaks of no byte of RAM but those of the block's words, and of no register but the main stack pointer
    pub off_words : (m : MonitorBlock) (x : Context) (old new : List ℕ) → Inv m x old →
        ((w a : ℕ) → g.block ≤ a → a + w ≤ g.block + words_end → read w a new ≡ read w a old) → length new ≡ length old → Inv m x new
    pub any_high : (m : MonitorBlock) (x : Context) (h : List ℕ) (ram : List ℕ) → Inv m x ram → length h ≡ 5 → Inv m (record x { high = h }) ram
    pub high_five : (m : MonitorBlock) (x : Context) (ram : List ℕ) → Inv m x ram → length x.high ≡ 5
    pub as_long : (m : MonitorBlock) (x : Context) (ram : List ℕ) → Inv m x ram → length ram ≡ g.image.ram_size
    pub top_inside : (m : MonitorBlock) (x : Context) (ram : List ℕ) → Inv m x ram → m.top ≤ base g + stack_end g
    -- events tell the running compartment
    pub current : (m : MonitorBlock) (x : Context) (ram : List ℕ) → Inv m x ram → compartment_of g.image ram ≡ m.current

  -- ---- accesses that need no loan: the unit permits them

  abbrev pub Permits : Context → Access → (address : ℕ) → Type 0
  Permits x kind a = by_mpu x.protection kind a ≡ true

  pub record UnitPermits : Type 0 where
    pub fetches : (m : MonitorBlock) (x : Context) (ram : List ℕ) (a : ℕ) → Inv m x ram → g.has_code m.current a ≡ true → Permits x Fetch a
    pub fetches_stub : (m : MonitorBlock) (x : Context) (ram : List ℕ) (a : ℕ) → Inv m x ram → g.stub ≤ a → a < g.stub + 2 → Permits x Fetch a
    pub reads_stack : (m : MonitorBlock) (x : Context) (ram : List ℕ) (o : ℕ) → Inv m x ram → g.stack ≤ o → base g + o < m.top → Permits x Read (base g + o)
    pub writes_stack : (m : MonitorBlock) (x : Context) (ram : List ℕ) (o : ℕ) → Inv m x ram → g.stack ≤ o → base g + o < m.top → Permits x Write (base g + o)
    pub loads : (m : MonitorBlock) (x : Context) (ram : List ℕ) (a : ℕ) → Inv m x ram → g.may_load m.current a ≡ true → Permits x Read a
    pub stores : (m : MonitorBlock) (x : Context) (ram : List ℕ) (a : ℕ) → Inv m x ram → g.may_store m.current a ≡ true → Permits x Write a

  -- ---- accesses by a loan: of r0 at r1

  pub record LoansReach : Type 0 where
    -- STR, STRB and STRH r0,[r1,#0] have made their store, as without protection
    pub stores : (m : MonitorBlock) (x : Context) (low : List ℕ) (o lr pc : ℕ) (f : Flags) (ram : List ℕ) (queues : List (List ℕ)) (op w a c : ℕ) →
        IsStore op w → AtInstr g Inv m x low o lr pc f ram queues (TransferImmediate op 0 1 0) →
        get_or low 1 0 ≡ a → a % w ≡ 0 → location g.image a ≡ InRam c → OffFrame g o c w → IsLentTo g (g.has_loan m.current) m a w →
        Resumes g Inv access_steps (works x low (base g + o) lr pc f ram queues) m (base g + o) (pc + 2) o (write w c (get_or low 0 0) ram) queues
    -- LDR, LDRB and LDRH r0,[r1,#0] have loaded, on a closed board
    pub loads : (m : MonitorBlock) (x : Context) (low : List ℕ) (o lr pc : ℕ) (f : Flags) (ram : List ℕ) (queues : List (List ℕ)) (op w a c : ℕ) →
        IsLoad op w → AtInstr g Inv m x low o lr pc f ram queues (TransferImmediate op 0 1 0) →
        get_or low 1 0 ≡ a → a % w ≡ 0 → location g.image a ≡ InRam c → OffFrame g o c w → IsLentTo g (g.has_read_loan m.current) m a w →
        (h : Resumes g Inv access_steps (works x low (base g + o) lr pc f ram queues) m (base g + o) (pc + 2) o ram queues)
        × (get_or h.low 0 0 ≡ read w c ram)

  -- ---- calls of the monitor, from the SVC to the thread's next instruction

  pub record Calls : Type 0 where
    pub lend : (m : MonitorBlock) (x : Context) (low : List ℕ) (o lr pc : ℕ) (f : Flags) (ram : List ℕ) (queues : List (List ℕ)) (l : Loan) →
        AtInstr g Inv m x low o lr pc f ram queues (svc 2) → get_or low 0 0 ≡ l.address → get_or low 1 0 ≡ l.number →
        length m.loans < 32 → l.number < length g.sizes → l.address % 4 ≡ 0 → l.end ≡ l.address + get_or g.sizes l.number 0 →
        base g + o ≤ l.address → l.end ≤ m.top →
        Resumes g Inv lend_steps (works x low (base g + o) lr pc f ram queues) (lent m l) (base g + o) (pc + 2) o ram queues
    pub unlend : (m : MonitorBlock) (l : Loan) (x : Context) (low : List ℕ) (o lr pc : ℕ) (f : Flags) (ram : List ℕ) (queues : List (List ℕ)) →
        AtInstr g Inv (lent m l) x low o lr pc f ram queues (svc 3) → m.mark ≤ length m.loans →
        Resumes g Inv lend_steps (works x low (base g + o) lr pc f ram queues) m (base g + o) (pc + 2) o ram queues
    -- r12 has the entry with bit 0 set; the entry itself is even, as the return to it drops bit 0. The call's frame is pushed below
    -- `o`, and the callee's stack ends at the frame's place rounded down to an eighth
    pub enter : (m : MonitorBlock) (x : Context) (low : List ℕ) (o lr pc : ℕ) (f : Flags) (ram : List ℕ) (queues : List (List ℕ)) (site entry target top : ℕ) →
        AtInstr g Inv m x low o lr pc f ram queues (svc 0) → HoldsHalf g.image (pc + 2) site → g.has_target site (pc + 2) entry target ≡ true →
        get_or x.high 4 0 ≡ entry + 1 → entry % 2 ≡ 0 → g.stack < top → top ≡ g.stack + (o - 32 - g.stack) / g.eighth * g.eighth →
        Enters g Inv (works x low (base g + o) lr pc f ram queues) (entered m target (base g + top) (base g + o - 32)) low o top entry (pc + 4) ram queues
    -- leave undoes enter, from the stub. The frame that waits lies at or above the thread's stack pointer, so that the frame of this
    -- SVC does not lie on it; its return address is even, and its xPSR is a thread's: else the return would not go there
    pub leave : (m : MonitorBlock) (c top o : ℕ) (x : Context) (low : List ℕ) (lr : ℕ) (f : Flags) (ram : List ℕ) (queues : List (List ℕ)) (ret status : ℕ) →
        Inv (entered m c (base g + top) (base g + o - 32)) x ram → HasRoom g (entered m c (base g + top) (base g + o - 32)) top →
        StateFits g.image (works x low (base g + top) lr g.stub f ram queues) → top + 32 ≤ o →
        read 4 (o - 8) ram ≡ ret → read 4 (o - 4) ram ≡ status →
        ret % 2 ≡ 0 → is_thread status ≡ true → nat_eq (status / 2 ^ 9 % 2) 1 ≡ false →
        Leaves g Inv (works x low (base g + top) lr g.stub f ram queues) m low o ret ram queues
    -- at the end of `main`
    pub ends : (x : Context) (low : List ℕ) (lr : ℕ) (f : Flags) (ram : List ℕ) (queues : List (List ℕ)) → Inv (first_block g) x ram →
        StateFits g.image (works x low (base g + stack_end g) lr g.stub f ram queues) →
        (k : ℕ) × (1 ≤ k) × (k ≤ call_steps)
        × (t : State) × (t.ending ≡ Some (Halt halt_end)) × Runs by_mpu g.image k (works x low (base g + stack_end g) lr g.stub f ram queues) t []

  pub record Law : Type 0 where
    pub keeps : InvariantKeeps
    pub permits : UnitPermits
    pub reach : LoansReach
    pub calls : Calls
    pub begins : (queues : List (List ℕ)) (first : State) → IsReset g.image queues first → Begins g Inv queues first

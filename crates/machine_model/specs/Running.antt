-- Beyond the program's claim: only laws, proofs and functions inside the tool cite this file.
-- What a step does, by what its instruction asks for.
use Rattle.std.specs.Prelude.{◌≡◌, ℕ, suc, ◌+◌, ◌%◌, ◌<◌, ◌≤◌, List, [], ◌∷◌, ◌++◌, length, true, false, Option, Some}
use Rattle.std.proofs.Math.ListN.{get_or, set}
use Rattle.base_words.specs.Bytes.{read, write, cut, write_all}
use Rattle.machine_thumb.specs.declared.table.Instr.{Instr}
use Rattle.machine_protection.specs.declared.region.Access.TheVariants.{Read, Write, Fetch}
use Rattle.machine_devices.specs.declared.image.Image.{Image}
use Rattle.base_events.specs.declared.event.Event.{Event}
use Rattle.machine_bus.specs.Locations.{InRam, InFlash, InWindow, location}
use Rattle.machine_model.specs.declared.state.CoreRegisters.{CoreRegisters}
use Rattle.machine_model.specs.declared.state.ProtectionState.{ProtectionState}
use Rattle.machine_model.specs.declared.state.FaultStatus.{FaultStatus}
use Rattle.machine_model.specs.declared.state.End.TheVariants.{Halt, InputEnd}
use Rattle.machine_model.specs.State.{State, PermissionTest}
use Rattle.machine_model.specs.Act.{Changes, Loads, Stores, LoadsMany, StoresMany, Calls, Exchanges, Halts}
use Rattle.machine_model.specs.Instructions.{act}
use Rattle.machine_model.specs.declared.answers.Verdict.TheVariants.{ToBus, Refused}
use Rattle.machine_model.specs.declared.answers.Verdicts.TheVariants.{RefusedAt}
use Rattle.machine_model.specs.Tests.{verdict, verdicts}
use Rattle.machine_model.specs.Exceptions.{frame_of, entry_core, is_fault_enabled, supervisor_call, mem_manage, return_on_psp, return_on_msp, is_thread, unstacked, fetch_status, data_status}
use Rattle.machine_model.specs.Perform.{perform}
use Rattle.machine_model.specs.Step.{turn}
use Rattle.machine_model.specs.Code.{size, Stands, CodeIn, CodeAt, live, StepsQuietly, Runs}
use Rattle.machine_model.specs.Stack.{Words, words_at, May, ExceptionFrame}
use Rattle.machine_model.specs.Events.{StepsWith, input_event, output_event, ended}

-- the step of an instruction that stands at the program counter is what the instruction asks for, performed
abbrev pub StepsAreActs : Type 0
StepsAreActs =
    (j : PermissionTest) (i : Image) (c : CoreRegisters) (p : ProtectionState) (t : FaultStatus) (ram : List ℕ) (queues : List (List ℕ)) (x : Instr) →
    Stands j i p c.pc x → turn j i (live c p t ram queues) ≡ perform j i (act x (c.pc + size x) c) (live c p t ram queues)

-- how many bytes instructions are
abbrev pub code_size : List Instr → ℕ
code_size [] = 0
code_size (x ∷ xs) = size x + code_size xs

-- code in flash of which each byte may be fetched stands there
abbrev pub CodeMayRun : Type 0
CodeMayRun =
    (j : PermissionTest) (i : Image) (p : ProtectionState) (xs : List Instr) (pc : ℕ) →
    CodeIn i pc xs → ((a : ℕ) → pc ≤ a → a < pc + code_size xs → j p Fetch a ≡ true) → CodeAt j i p pc xs

-- code is its parts, one behind the other
abbrev pub CodeHasParts : Type 0
CodeHasParts =
    (i : Image) (xs ys : List Instr) (pc : ℕ) →
    (CodeIn i pc (xs ++ ys) → CodeIn i pc xs × CodeIn i (pc + code_size xs) ys) × (CodeIn i pc xs → CodeIn i (pc + code_size xs) ys → CodeIn i pc (xs ++ ys))

-- code that may run is its parts too, and its size, an even number of bytes, is the sum of theirs
abbrev pub StandingCodeHasParts : Type 0
StandingCodeHasParts =
    (j : PermissionTest) (i : Image) (p : ProtectionState) (xs ys : List Instr) (pc : ℕ) →
    (CodeAt j i p pc (xs ++ ys) → CodeAt j i p pc xs × CodeAt j i p (pc + code_size xs) ys) × (CodeAt j i p pc xs → CodeAt j i p (pc + code_size xs) ys → CodeAt j i p pc (xs ++ ys))

abbrev pub SizesAddUp : Type 0
SizesAddUp = (xs ys : List Instr) → code_size (xs ++ ys) ≡ code_size xs + code_size ys

abbrev pub SizesAreEven : Type 0
SizesAreEven = (xs : List Instr) → code_size xs % 2 ≡ 0

-- a step in front of a run, and a run behind a run
pub record RunsGoOn (j : PermissionTest) (i : Image) : Type 0 where
  pub next_step : (k : ℕ) (s t u : State) (es : List Event) → StepsQuietly j i s t → Runs j i k t u es → Runs j i (suc k) s u es
  pub next_event : (k : ℕ) (s t u : State) (e : Event) (es : List Event) → StepsWith j i s t e → Runs j i k t u es → Runs j i (suc k) s u (e ∷ es)
  pub onward : (m k : ℕ) (s t u : State) (xs ys : List Event) → Runs j i m s t xs → Runs j i k t u ys → Runs j i (m + k) s u (xs ++ ys)

module _ (j : PermissionTest) (i : Image) (c : CoreRegisters) (p : ProtectionState) (t : FaultStatus) (ram : List ℕ) (queues : List (List ℕ)) (x : Instr) where
  -- where the instruction stands at the program counter, the step leads there
  abbrev pub LeadsTo : State → Type 0
  LeadsTo s = Stands j i p c.pc x → StepsQuietly j i (live c p t ram queues) s

  abbrev pub LeadsWith : Event → State → Type 0
  LeadsWith e s = Stands j i p c.pc x → StepsWith j i (live c p t ram queues) s e

  pub record ActSteps : Type 0 where
    pub changes : (d : CoreRegisters) → act x (c.pc + size x) c ≡ Changes d → LeadsTo (live d p t ram queues)
    pub loads_ram : (w a o : ℕ) (go : ℕ → CoreRegisters) → act x (c.pc + size x) c ≡ Loads w a go → verdict j p Read w a ≡ ToBus → location i a ≡ InRam o →
        LeadsTo (live (go (read w o ram)) p t ram queues)
    pub loads_flash : (w a o : ℕ) (go : ℕ → CoreRegisters) → act x (c.pc + size x) c ≡ Loads w a go → verdict j p Read w a ≡ ToBus → location i a ≡ InFlash o →
        LeadsTo (live (go (read w o i.flash)) p t ram queues)
    pub loads_window : (w a k o u : ℕ) (us : List ℕ) (go : ℕ → CoreRegisters) → act x (c.pc + size x) c ≡ Loads w a go → verdict j p Read w a ≡ ToBus → location i a ≡ InWindow k o →
        get_or queues k [] ≡ u ∷ us → LeadsWith (input_event i ram k o w u) (live (go (cut w u)) p t ram (set queues k us))
    pub loads_nothing : (w a k o : ℕ) (go : ℕ → CoreRegisters) → act x (c.pc + size x) c ≡ Loads w a go → verdict j p Read w a ≡ ToBus → location i a ≡ InWindow k o →
        get_or queues k [] ≡ [] → LeadsTo (ended InputEnd (live c p t ram queues))
    pub stores_ram : (w a o u : ℕ) (d : CoreRegisters) → act x (c.pc + size x) c ≡ Stores w a u d → verdict j p Write w a ≡ ToBus → location i a ≡ InRam o →
        LeadsTo (live d p t (write w o u ram) queues)
    pub stores_window : (w a k o u : ℕ) (d : CoreRegisters) → act x (c.pc + size x) c ≡ Stores w a u d → verdict j p Write w a ≡ ToBus → location i a ≡ InWindow k o →
        LeadsWith (output_event i ram k o w u) (live d p t ram queues)
    pub loads_many : (a o n : ℕ) (go : List ℕ → Option CoreRegisters) (d : CoreRegisters) → act x (c.pc + size x) c ≡ LoadsMany a n go → Words i a o n → May j p Read a n →
        go (words_at n o ram) ≡ Some d → LeadsTo (live d p t ram queues)
    pub stores_many : (a o : ℕ) (vs : List ℕ) (d : CoreRegisters) → act x (c.pc + size x) c ≡ StoresMany a vs d → Words i a o (length vs) → May j p Write a (length vs) →
        LeadsTo (live d p t (write_all 4 o vs ram) queues)
    pub halts : (n : ℕ) → act x (c.pc + size x) c ≡ Halts n → LeadsTo (ended (Halt n) (live c p t ram queues))

  -- entries and returns; the return address of a call is behind it, that of a fault is its own
  pub record ExceptionSteps : Type 0 where
    pub calls : (o next : ℕ) → act x (c.pc + size x) c ≡ Calls next → p.handler ≡ false → ExceptionFrame j i p c.sp o →
        LeadsTo (live (entry_core i supervisor_call c) (record p { handler = true }) t (write_all 4 o (frame_of c next) ram) queues)
    pub faults_load : (w a o : ℕ) (go : ℕ → CoreRegisters) → act x (c.pc + size x) c ≡ Loads w a go → verdict j p Read w a ≡ Refused →
        p.handler ≡ false → is_fault_enabled t ≡ true → ExceptionFrame j i p c.sp o →
        LeadsTo (live (entry_core i mem_manage c) (record p { handler = true }) (data_status a t) (write_all 4 o (frame_of c c.pc) ram) queues)
    pub faults_store : (w a v o : ℕ) (d : CoreRegisters) → act x (c.pc + size x) c ≡ Stores w a v d → verdict j p Write w a ≡ Refused →
        p.handler ≡ false → is_fault_enabled t ≡ true → ExceptionFrame j i p c.sp o →
        LeadsTo (live (entry_core i mem_manage c) (record p { handler = true }) (data_status a t) (write_all 4 o (frame_of c c.pc) ram) queues)
    -- the first of several words that is refused
    pub faults_loads : (a n y o : ℕ) (go : List ℕ → Option CoreRegisters) → act x (c.pc + size x) c ≡ LoadsMany a n go → verdicts j i p Read a n ≡ RefusedAt y →
        p.handler ≡ false → is_fault_enabled t ≡ true → ExceptionFrame j i p c.sp o →
        LeadsTo (live (entry_core i mem_manage c) (record p { handler = true }) (data_status y t) (write_all 4 o (frame_of c c.pc) ram) queues)
    pub faults_stores : (a y o : ℕ) (vs : List ℕ) (d : CoreRegisters) → act x (c.pc + size x) c ≡ StoresMany a vs d → verdicts j i p Write a (length vs) ≡ RefusedAt y →
        p.handler ≡ false → is_fault_enabled t ≡ true → ExceptionFrame j i p c.sp o →
        LeadsTo (live (entry_core i mem_manage c) (record p { handler = true }) (data_status y t) (write_all 4 o (frame_of c c.pc) ram) queues)
    -- a fetch that is refused, whatever stands there
    pub faults_fetch : (o : ℕ) → j p Fetch c.pc ≡ false → p.handler ≡ false → is_fault_enabled t ≡ true → ExceptionFrame j i p c.sp o →
        StepsQuietly j i (live c p t ram queues)
        (live (entry_core i mem_manage c) (record p { handler = true }) (fetch_status t) (write_all 4 o (frame_of c c.pc) ram) queues)
    pub returns_to_psp : (o : ℕ) → act x (c.pc + size x) c ≡ Exchanges return_on_psp → p.handler ≡ true → Words i c.other_sp o 8 → May j (record p { handler = false }) Read c.other_sp 8 →
        is_thread (get_or (words_at 8 o ram) 7 0) ≡ true → LeadsTo (live (unstacked true c c.other_sp (words_at 8 o ram)) (record p { handler = false }) t ram queues)
    pub returns_to_msp : (o : ℕ) → act x (c.pc + size x) c ≡ Exchanges return_on_msp → p.handler ≡ true → Words i c.sp o 8 → May j (record p { handler = false }) Read c.sp 8 →
        is_thread (get_or (words_at 8 o ram) 7 0) ≡ true → LeadsTo (live (unstacked false c c.sp (words_at 8 o ram)) (record p { handler = false }) t ram queues)

-- the same in each state, for each instruction
abbrev pub EachLive : (PermissionTest → Image → CoreRegisters → ProtectionState → FaultStatus → List ℕ → List (List ℕ) → Instr → Type 0) → Type 0
EachLive P = (j : PermissionTest) (i : Image) (c : CoreRegisters) (p : ProtectionState) (t : FaultStatus) (ram : List ℕ) (queues : List (List ℕ)) (x : Instr) → P j i c p t ram queues x

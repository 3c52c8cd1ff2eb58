-- Beyond the program's claim: only laws, proofs and functions inside the tool cite this file.
-- The theorem of the language, as a statement: the code of a list, run by the machine, has the list's effect.
use Rattle.std.specs.Prelude.{◌≡◌, ℕ, ◌+◌, ◌^◌, ◌<◌, ◌≤◌, List, [], ◌∷◌, Bool, true, None}
use Rattle.base_words.specs.declared.conditions.Flags.{Flags}
use Rattle.base_words.specs.Runs.{run}
use Rattle.machine_thumb.specs.declared.table.Instr.{Instr}
use Rattle.machine_thumb.specs.declared.table.Instr.TheVariants.{HighRegister, BranchExchange}
use Rattle.machine_protection.specs.declared.region.Access.{Access}
use Rattle.machine_protection.specs.declared.region.Access.TheVariants.{Read, Write, Fetch}
use Rattle.machine_devices.specs.declared.image.Image.{Image}
use Rattle.machine_devices.specs.Rules.{ObeysRules}
use Rattle.machine_model.specs.declared.state.CoreRegisters.{CoreRegisters}
use Rattle.machine_model.specs.declared.state.ProtectionState.{ProtectionState}
use Rattle.machine_model.specs.declared.state.End.TheVariants.{Halt as HaltEnd, Stop}
use Rattle.machine_model.specs.State.{State, Touched, PermissionTest}
use Rattle.machine_model.specs.Step.{turn}
use Rattle.machine_model.specs.Code.{size, Stands, CodeIn, live, next}
use Rattle.machine_model.specs.Running.{code_size}
use Rattle.machine_model.specs.Shape.{StateFits}
use Rattle.machine_model.specs.Events.{ended}
use Rattle.base_laws.specs.Lists.{Each}
use Rattle.monitor_steps.specs.Steps.{PrivilegedSteps, names_low}
use Rattle.monitor_steps.specs.Core.{Core, core_of}
use Rattle.monitor_steps.specs.Effect.{Outcome, Went, Halted, AtReturn, AtBranch, Stopped, Unclaimed, effect}
use Rattle.monitor_steps.specs.Code.{code, code_length}
use Rattle.monitor_steps.specs.Ticks.{ticks, most_ticks}
use Rattle.monitor_steps.specs.Safe.{Rule, IsSafe}

-- the registers that steps may leave otherwise than they were: r8 to r12 and the flags
pub record Scratch : Type 0 where
  pub high : List ℕ
  pub flags : Flags

-- the machine at an address, with this core. The link register and the recorded input are the same at all steps
module _ (lr : ℕ) (queues : List (List ℕ)) where
  abbrev pub registers : (pc : ℕ) → Scratch → Core → CoreRegisters
  registers pc x c = record { low = c.low; high = x.high; sp = c.sp; other_sp = c.other_sp; on_psp = c.on_psp; lr = lr; pc = pc; flags = x.flags }

  abbrev pub at : (pc : ℕ) → Scratch → Core → State
  at pc x c = live (registers pc x c) c.protection c.status c.ram queues

-- ---- code

-- `Good` is what holds of mode and protection at each step
module _ (j : PermissionTest) (i : Image) (Good : ProtectionState → Type 0) where
  -- an instruction that stands there under each good protection, and instructions one after another
  abbrev pub StandsWhileGood : (pc : ℕ) → Instr → Type 0
  StandsWhileGood pc y = (p : ProtectionState) → Good p → Stands j i p pc y

  abbrev pub HasCode : (pc : ℕ) → List Instr → Type 0
  HasCode pc [] = Unit {0}
  HasCode pc (y ∷ ys) = StandsWhileGood pc y × HasCode (pc + size y) ys

  -- code in flash that may be fetched under each good protection stands there
  abbrev pub FlashHasCode : Type 0
  FlashHasCode =
      (pc : ℕ) (ys : List Instr) → CodeIn i pc ys → ((p : ProtectionState) → Good p → (a : ℕ) → pc ≤ a → a < pc + code_size ys → j p Fetch a ≡ true) → HasCode pc ys

-- ---- runs

-- `Allowed` is what each access reaches
module _ (j : PermissionTest) (i : Image) (Good : ProtectionState → Type 0) (Allowed : Rule) where
  -- the step from this state is good, makes no event and takes no input, and its accesses are allowed
  pub record IsFine (s : State) : Type 0 where
    pub good : Good s.protection
    pub quiet : (turn j i s).event ≡ None
    pub stores : Each (λ (t : Touched). Allowed Write (core_of s) t.width t.address) (turn j i s).stores
    pub loads : Each (λ (t : Touched). Allowed Read (core_of s) t.width t.address) (turn j i s).loads

  -- within so many steps, each of them fine, the machine comes to where a fact holds
  pub record Leads (most : ℕ) (s : State) (Reached : State → Type 0) : Type 0 where
    pub steps : ℕ
    pub within : steps ≤ most
    pub holds : Reached (run (next j i) steps s)
    pub each : (k : ℕ) → k < steps → IsFine (run (next j i) k s)

module _ (j : PermissionTest) (i : Image) (Good : ProtectionState → Type 0) (lr : ℕ) (queues : List (List ℕ)) where
  -- how the outcome of a list shows at the machine: where it goes on, protection is good and the numbers are words; `behind` is the
  -- address behind its code
  abbrev pub Shows : Outcome → (behind : ℕ) → State → Type 0
  Shows (Went c) behind s = (x : Scratch) × (s ≡ at lr queues behind x c) × Good c.protection × StateFits i (at lr queues behind x c)
  Shows (Halted n c) behind s = (pc : ℕ) × (x : Scratch) × (s ≡ ended (HaltEnd n) (at lr queues pc x c))
  -- BX LR stands there
  Shows (AtReturn c) behind s =
      (pc : ℕ) × (x : Scratch) × (s ≡ at lr queues pc x c) × Good c.protection × StateFits i (at lr queues pc x c) × Stands j i c.protection pc (BranchExchange 0 14)
  -- MOV LR and BX stand there
  Shows (AtBranch to link c) behind s =
      (pc : ℕ) × (x : Scratch) × (s ≡ at lr queues pc x c) × Good c.protection × StateFits i (at lr queues pc x c)
      × StandsWhileGood j i Good pc (HighRegister 2 link 14) × StandsWhileGood j i Good (pc + 2) (BranchExchange 0 to)
  Shows (Stopped r c) behind s = (pc : ℕ) × (x : Scratch) × (s ≡ ended (Stop r pc) (at lr queues pc x c))
  Shows Unclaimed behind s = Unit {0}

-- ---- the theorem

module _ (j : PermissionTest) (i : Image) (Good : ProtectionState → Type 0) (Allowed : Rule) where
  -- what is asked of a list, of the place of its code, and of the core before it
  pub record MayStart (lr : ℕ) (queues : List (List ℕ)) (s : PrivilegedSteps) (pc : ℕ) (x : Scratch) (c : Core) : Type 0 where
    pub registers_are_low : names_low s ≡ true
    pub below : pc + code_length s < 2 ^ 30
    pub code_stands : HasCode j i Good pc (code s)
    pub good : Good c.protection
    pub fits : StateFits i (at lr queues pc x c)
    pub safe : IsSafe j i Good Allowed s c

  -- the code of a list has the list's effect, within the steps that are counted for it; all else stays but r8 to r12, the flags
  -- and the program counter
  abbrev pub CodeHasEffect : Type 0
  CodeHasEffect =
      (lr : ℕ) (queues : List (List ℕ)) (s : PrivilegedSteps) (pc : ℕ) (x : Scratch) (c : Core) → ObeysRules i → MayStart lr queues s pc x c →
      Leads j i Good Allowed (ticks j i s c) (at lr queues pc x c) (Shows j i Good lr queues (effect j i s c) (pc + code_length s))

-- whatever test tells which protection is good, and whatever test tells what may be accessed
abbrev pub GoodBy : (ProtectionState → Bool) → ProtectionState → Type 0
GoodBy test p = test p ≡ true

abbrev pub AllowedBy : (Access → Core → (width address : ℕ) → Bool) → Rule
AllowedBy test kind c w a = test kind c w a ≡ true

abbrev pub AllCodeHasEffect : Type 0
AllCodeHasEffect =
    (j : PermissionTest) (i : Image) (good : ProtectionState → Bool) (allowed : Access → Core → (width address : ℕ) → Bool) → CodeHasEffect j i (GoodBy good) (AllowedBy allowed)

abbrev pub AllFlashHasCode : Type 0
AllFlashHasCode = (j : PermissionTest) (i : Image) (good : ProtectionState → Bool) → FlashHasCode j i (GoodBy good)

-- the code of a list is as long as is counted, and a run is no longer than the most
abbrev pub CodeHasItsLength : Type 0
CodeHasItsLength = (s : PrivilegedSteps) → code_size (code s) ≡ code_length s

abbrev pub TicksAreBounded : Type 0
TicksAreBounded = (j : PermissionTest) (i : Image) (s : PrivilegedSteps) (c : Core) → ticks j i s c ≤ most_ticks s

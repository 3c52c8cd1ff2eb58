-- Beyond the program's claim: only laws, proofs and functions inside the tool cite this file.
-- The accesses that an instruction asks for, and which of them is refused first.
use Rattle.std.specs.Prelude.{◌≡◌, ℕ, ◌+◌, ◌%◌, ◌⊎◌, List, [], ◌∷◌, length, Bool, true, false, ◌&&◌, Some, None, nat_eq, nat_lt}
use Rattle.machine_thumb.specs.declared.table.Instr.{Instr}
use Rattle.machine_thumb.specs.Decoded.{decoded}
use Rattle.machine_protection.specs.declared.region.Access.{Access}
use Rattle.machine_protection.specs.declared.region.Access.TheVariants.{Read, Write, Fetch}
use Rattle.machine_devices.specs.declared.image.Image.{Image}
use Rattle.machine_bus.specs.Locations.{location, is_memory}
use Rattle.machine_bus.specs.Bus.{fetch_at}
use Rattle.machine_model.specs.declared.state.CoreRegisters.{CoreRegisters}
use Rattle.machine_model.specs.declared.state.ProtectionState.{ProtectionState}
use Rattle.machine_model.specs.declared.state.FaultStatus.{FaultStatus}
use Rattle.machine_model.specs.declared.state.End.{End}
use Rattle.machine_model.specs.State.{State, Touched, Turn, PermissionTest, is_unprivileged, ends}
use Rattle.machine_model.specs.Act.{Act, Loads, Stores, LoadsMany, StoresMany, Exchanges, Calls}
use Rattle.machine_model.specs.Instructions.{act}
use Rattle.machine_model.specs.System.{in_system, is_system_register}
use Rattle.machine_model.specs.Exceptions.{words_from, return_on_psp, return_on_msp, mem_manage, supervisor_call, entered, is_frame_open, is_fault_enabled, data_status}
use Rattle.machine_model.specs.declared.answers.Fetched.TheVariants.{Took}
use Rattle.machine_model.specs.Step.{fetch, turn}
use Rattle.machine_model.specs.Code.{size, Stands, live}

-- the frame that an exception return takes back
abbrev pub frame_loads : (to_psp to_msp : Bool) → CoreRegisters → List Touched
frame_loads true m c = words_from c.other_sp 8
frame_loads false true c = words_from c.sp 8
frame_loads false false c = []

-- what an act loads and stores where it completes, in this order; an exception entry is told apart
abbrev pub asked_loads : State → Act → List Touched
asked_loads s (Loads w a go) = record { width = w; address = a } ∷ []
asked_loads s (LoadsMany a n go) = words_from a n
asked_loads s (Exchanges v) =
    frame_loads (s.protection.handler && nat_eq v return_on_psp) (s.protection.handler && nat_eq v return_on_msp) s.core
asked_loads s _ = []

abbrev pub asked_stores : Act → List Touched
asked_stores (Stores w a v c) = record { width = w; address = a } ∷ []
asked_stores (StoresMany a vs c) = words_from a (length vs)
asked_stores _ = []

-- an access that only the test of permission refuses: aligned, and outside the private peripheral bus
pub record IsRefused (j : PermissionTest) (p : ProtectionState) (kind : Access) (x : Touched) : Type 0 where
  pub aligned : x.address % x.width ≡ 0
  pub outside : in_system x.address ≡ false
  pub refused : j p kind x.address ≡ false

-- the access is permitted, and goes to memory that takes such an access
pub record IsInMemory (j : PermissionTest) (i : Image) (p : ProtectionState) (kind : Access) (x : Touched) : Type 0 where
  pub outside : in_system x.address ≡ false
  pub permitted : j p kind x.address ≡ true
  pub memory : is_memory kind (location i x.address) ≡ true

-- a register of the private peripheral bus, which privileged code alone reaches
pub record IsPrivilegedPlace (p : ProtectionState) (x : Touched) : Type 0 where
  pub within : in_system x.address ≡ true
  pub privileged : is_unprivileged p ≡ false
  pub register : is_system_register x.address ≡ true

-- one of several words that passes all tests
pub record IsInOrder (j : PermissionTest) (i : Image) (p : ProtectionState) (kind : Access) (x : Touched) : Type 0 where
  pub aligned : x.address % x.width ≡ 0
  pub reached : IsInMemory j i p kind x ⊎ IsPrivilegedPlace p x

-- this is the address of the first of these accesses that is refused, and all before it are in order
abbrev pub IsFirstRefused : PermissionTest → Image → ProtectionState → Access → List Touched → (address : ℕ) → Type 0
IsFirstRefused j i p kind [] y = ⊥
IsFirstRefused j i p kind (x ∷ xs) y =
    ((y ≡ x.address) × IsRefused j p kind x) ⊎ (IsInOrder j i p kind x × IsFirstRefused j i p kind xs y)

-- the first refused access of an act, whose accesses are loads or stores and not both
abbrev pub RefusesFirst : PermissionTest → Image → State → Act → (address : ℕ) → Type 0
RefusesFirst j i s x y = IsFirstRefused j i s.protection Read (asked_loads s x) y ⊎ IsFirstRefused j i s.protection Write (asked_stores x) y

-- this halfword was fetched from the program counter
pub record IsFetched (j : PermissionTest) (i : Image) (s : State) (half : ℕ) : Type 0 where
  pub permitted : j s.protection Fetch s.core.pc ≡ true
  pub is_half : fetch_at (location i s.core.pc) i s.ram ≡ Some half

-- the halfwords of this instruction were fetched from the program counter; the next address is behind them
pub record IsTaken (j : PermissionTest) (i : Image) (s : State) (x : Instr) (next : ℕ) : Type 0 where
  pub first : ℕ
  pub second : ℕ
  pub count : ℕ
  pub begins : IsFetched j i s first
  -- a first half that begins with 11101, 11110 or 11111 has a second
  pub ends : nat_lt first 0xE800 ≡ false → (j s.protection Fetch (s.core.pc + 2) ≡ true) × (fetch_at (location i (s.core.pc + 2)) i s.ram ≡ Some second)
  pub took : fetch j i s ≡ Took first second count
  pub decodes : decoded first second ≡ Some x
  pub is_next : next ≡ s.core.pc + count

-- all that the turn of an instruction may be that asks for this: what it stores and loads
pub data DoesAct (j : PermissionTest) (i : Image) (s : State) (x : Act) (t : Turn) : Type 0 where
  -- the machine ends, with no access
  Stopped : (e : End) → t ≡ ends e s → DoesAct j i s x t
  -- each access that the act asks for, in order, and no other
  Completed : t.stores ≡ asked_stores x → t.loads ≡ asked_loads s x → t.to.ending ≡ s.ending → DoesAct j i s x t
  -- the entry of the exception that it calls
  Called : (next : ℕ) → x ≡ Calls next → s.protection.handler ≡ false → is_frame_open j i s ≡ true →
      t ≡ entered true i supervisor_call next s.status s → DoesAct j i s x t
  -- the entry of the fault of its first refused access
  Faulted : (address : ℕ) → RefusesFirst j i s x address → s.protection.handler ≡ false → is_fault_enabled s.status ≡ true → is_frame_open j i s ≡ true →
      t ≡ entered true i mem_manage s.core.pc (data_status address s.status) s → DoesAct j i s x t

-- this holds of the instruction that was fetched, whatever it is, and of one that stands at the program counter
abbrev pub TakenActsAreDone : Type 0
TakenActsAreDone =
    (j : PermissionTest) (i : Image) (s : State) (x : Instr) (next : ℕ) → s.ending ≡ None → IsTaken j i s x next →
    DoesAct j i s (act x next s.core) (turn j i s)

abbrev pub StandingActsAreDone : Type 0
StandingActsAreDone =
    (j : PermissionTest) (i : Image) (c : CoreRegisters) (p : ProtectionState) (t : FaultStatus) (ram : List ℕ) (queues : List (List ℕ)) (x : Instr) →
    Stands j i p c.pc x → DoesAct j i (live c p t ram queues) (act x (c.pc + size x) c) (turn j i (live c p t ram queues))

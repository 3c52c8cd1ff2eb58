-- Instructions that stand in memory, and the steps that they make.
use Rattle.std.specs.Prelude.{◌≡◌, ℕ, ◌+◌, List, [], ◌∷◌, true, Option, None}
use Rattle.machine_thumb.specs.declared.table.Code.{Code}
use Rattle.machine_thumb.specs.declared.table.Code.TheVariants.{Half, Pair}
use Rattle.machine_thumb.specs.declared.table.Instr.{Instr}
use Rattle.machine_thumb.specs.declared.table.Instr.TheVariants.{BranchLink, BranchWide, MoveWide, MoveTop, Divide, SpecialRegister, Barrier}
use Rattle.machine_thumb.specs.Table.{InTable, encode}
use Rattle.machine_protection.specs.declared.region.Access.TheVariants.{Fetch}
use Rattle.machine_devices.specs.declared.image.Image.{Image}
use Rattle.base_events.specs.declared.event.Event.{Event}
use Rattle.machine_bus.specs.Locations.{location, InFlash}
use Rattle.base_words.specs.Bytes.{read}
use Rattle.base_words.specs.Runs.{Goes}
use Rattle.machine_model.specs.declared.state.CoreRegisters.{CoreRegisters}
use Rattle.machine_model.specs.declared.state.ProtectionState.{ProtectionState}
use Rattle.machine_model.specs.declared.state.FaultStatus.{FaultStatus}
use Rattle.machine_model.specs.State.{State, PermissionTest}
use Rattle.machine_model.specs.Step.{turn}

-- how many bytes the halfwords of an instruction are
abbrev pub size : Instr → ℕ
size (BranchLink offset) = 4
size (BranchWide offset) = 4
size (MoveWide d value) = 4
size (MoveTop d value) = 4
size (Divide op n d m) = 4
size (SpecialRegister op n d s) = 4
size (Barrier op) = 4
size _ = 2

-- flash holds this halfword at an address
pub record HoldsHalf (i : Image) (address half : ℕ) : Type 0 where
  pub offset : ℕ
  pub is_in_flash : location i address ≡ InFlash offset
  pub is_half : read 2 offset i.flash ≡ half

abbrev pub HoldsCode : Image → (address : ℕ) → Code → Type 0
HoldsCode i pc (Half h) = HoldsHalf i pc h
HoldsCode i pc (Pair h k) = HoldsHalf i pc h × HoldsHalf i (pc + 2) k

-- protection lets the halfwords of an instruction be fetched
abbrev pub MayFetch : PermissionTest → ProtectionState → (address : ℕ) → Code → Type 0
MayFetch j p pc (Half h) = j p Fetch pc ≡ true
MayFetch j p pc (Pair h k) = (j p Fetch pc ≡ true) × (j p Fetch (pc + 2) ≡ true)

-- an instruction stands in flash, whatever protects
pub record Lies (i : Image) (address : ℕ) (x : Instr) : Type 0 where
  pub in_table : InTable x
  pub code : HoldsCode i address (encode x)

-- and may be fetched
pub record Stands (j : PermissionTest) (i : Image) (p : ProtectionState) (address : ℕ) (x : Instr) : Type 0 where
  pub lies : Lies i address x
  pub may_fetch : MayFetch j p address (encode x)

-- instructions one after another
abbrev pub CodeIn : Image → (address : ℕ) → List Instr → Type 0
CodeIn i pc [] = Unit {0}
CodeIn i pc (x ∷ xs) = Lies i pc x × CodeIn i (pc + size x) xs

abbrev pub CodeAt : PermissionTest → Image → ProtectionState → (address : ℕ) → List Instr → Type 0
CodeAt j i p pc [] = Unit {0}
CodeAt j i p pc (x ∷ xs) = Stands j i p pc x × CodeAt j i p (pc + size x) xs

-- a machine that has not ended
abbrev pub live : CoreRegisters → ProtectionState → FaultStatus → (ram : List ℕ) → (queues : List (List ℕ)) → State
live c p t ram queues = record { core = c; protection = p; status = t; ram = ram; queues = queues; ending = None }

abbrev pub next : PermissionTest → Image → State → State
next j i s = (turn j i s).to

abbrev pub event_of : PermissionTest → Image → State → Option Event
event_of j i s = (turn j i s).event

-- one step without an event
pub record StepsQuietly (j : PermissionTest) (i : Image) (s t : State) : Type 0 where
  pub leads : next j i s ≡ t
  pub quiet : event_of j i s ≡ None

-- k steps with these events
abbrev pub Runs : PermissionTest → Image → (count : ℕ) → State → State → List Event → Type 0
Runs j i k s t es = Goes (next j i) (event_of j i) k s t es

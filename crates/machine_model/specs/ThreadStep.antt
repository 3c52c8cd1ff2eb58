-- Beyond the program's claim: only laws, proofs and functions inside the tool cite this file.
-- All that an unprivileged step may do, whatever bytes it executes.
use Rattle.std.specs.Prelude.{◌≡◌, ◌≢◌, ℕ, ◌+◌, ◌%◌, ◌<◌, ◌⊎◌, [], ◌∷◌, true, false, None, nat_lt}
use Rattle.std.proofs.Math.ListN.{get_or}
use Rattle.machine_thumb.specs.declared.table.Instr.{Instr}
use Rattle.machine_protection.specs.declared.region.Access.{Access}
use Rattle.machine_protection.specs.declared.region.Access.TheVariants.{Read, Write, Fetch}
use Rattle.machine_protection.specs.Registers.{Registers}
use Rattle.machine_protection.specs.Protection.{IsAccessWidth, permits}
use Rattle.machine_devices.specs.declared.image.Image.{Image}
use Rattle.machine_devices.specs.Rules.{ObeysRules}
use Rattle.machine_bus.specs.Locations.{Nowhere, location}
use Rattle.machine_model.specs.declared.state.CoreRegisters.{CoreRegisters}
use Rattle.machine_model.specs.declared.state.FaultStatus.{FaultStatus}
use Rattle.machine_model.specs.declared.state.End.{End}
use Rattle.machine_model.specs.State.{State, Touched, Turn, by_mpu, is_unprivileged, ends}
use Rattle.machine_model.specs.Instructions.{act}
use Rattle.machine_model.specs.Exceptions.{words_from, mem_manage, supervisor_call, vector_offset, frame_at, entered, is_frame_open, is_fault_enabled, fetch_status, data_status}
use Rattle.machine_model.specs.Step.{turn}
use Rattle.machine_model.specs.Confinement.{Misses, IsVectorRead}
use Rattle.base_laws.specs.Lists.{Each}
use Rattle.machine_model.specs.Asked.{RefusesFirst, IsFetched, IsTaken}

-- an access of which each byte is permitted to unprivileged code, at a location that is mapped
pub record IsReached (i : Image) (m : Registers) (kind : Access) (x : Touched) : Type 0 where
  pub width : IsAccessWidth x.width
  pub aligned : x.address % x.width ≡ 0
  pub permitted : (k : ℕ) → k < x.width → permits m true kind (x.address + k) ≡ true
  pub mapped : location i x.address ≢ Nowhere

-- the same stack pointer is in use, and the other one stays as it is
pub record KeepsStacks (c d : CoreRegisters) : Type 0 where
  pub in_use : d.on_psp ≡ c.on_psp
  pub other : d.other_sp ≡ c.other_sp

-- a step that neither ends nor enters: it stays in Thread mode, under the same protection
pub record Plain (i : Image) (s : State) (t : Turn) : Type 0 where
  pub stores : Each (IsReached i s.protection.mpu Write) t.stores
  pub loads : Each (IsReached i s.protection.mpu Read) t.loads
  pub stacks : KeepsStacks s.core t.to.core
  pub protection : t.to.protection ≡ s.protection
  pub status : t.to.status ≡ s.status
  pub ending : t.to.ending ≡ s.ending
  pub ram : (k : ℕ) → Each (Misses i k) t.stores → get_or t.to.ram k 0 ≡ get_or s.ram k 0

-- the first halfword may not be fetched, or the second behind one that has a second
pub record IsFetchFault (i : Image) (s : State) (u : FaultStatus) : Type 0 where
  pub refused : (by_mpu s.protection Fetch s.core.pc ≡ false)
      ⊎ ((half : ℕ) × IsFetched by_mpu i s half × (nat_lt half 0xE800 ≡ false) × (by_mpu s.protection Fetch (s.core.pc + 2) ≡ false))
  pub status : u ≡ fetch_status s.status

-- a data access of the instruction that stands there is refused, and this is the first
pub record IsDataFault (i : Image) (s : State) (u : FaultStatus) : Type 0 where
  pub instruction : Instr
  pub next : ℕ
  pub taken : IsTaken by_mpu i s instruction next
  pub address : ℕ
  pub first : RefusesFirst by_mpu i s (act instruction next s.core) address
  pub status : u ≡ data_status address s.status

pub data ThreadStep (i : Image) (s : State) (t : Turn) : Type 0 where
  -- the machine ends, and nothing else changes
  Ends : (e : End) → t ≡ ends e s → ThreadStep i s t
  -- the instruction that stands there is done
  Goes : (x : Instr) (next : ℕ) → IsTaken by_mpu i s x next → Plain i s t → ThreadStep i s t
  -- SVC n: the return address is behind it
  Calls : (n : ℕ) → n < 256 → IsFetched by_mpu i s (0xDF00 + n) → is_frame_open by_mpu i s ≡ true →
      t ≡ entered true i supervisor_call (s.core.pc + 2) s.status s → ThreadStep i s t
  -- a refused fetch or data access: the return address is the instruction's own
  Faults : (u : FaultStatus) → IsFetchFault i s u ⊎ IsDataFault i s u → is_fault_enabled s.status ≡ true → is_frame_open by_mpu i s ≡ true →
      t ≡ entered true i mem_manage s.core.pc u s → ThreadStep i s t

abbrev pub UnprivilegedStepsAreThreadSteps : Type 0
UnprivilegedStepsAreThreadSteps =
    (i : Image) (s : State) → is_unprivileged s.protection ≡ true → s.ending ≡ None → ThreadStep i s (turn by_mpu i s)

-- an entry stores the eight words of its frame, and loads its vector alone
abbrev pub EntriesStoreFrames : Type 0
EntriesStoreFrames = (i : Image) (n ret : ℕ) (u : FaultStatus) (s : State) → (entered true i n ret u s).stores ≡ words_from (frame_at s.core.sp) 8

abbrev pub EntriesLoadVectors : Type 0
EntriesLoadVectors =
    (i : Image) (n ret : ℕ) (u : FaultStatus) (s : State) →
    (entered true i n ret u s).loads ≡ record { width = 4; address = i.flash_base + vector_offset n } ∷ []

-- all accesses of an unprivileged step, those of an entry too: only the vector is read without permission
pub record AccessesAreReached (i : Image) (s : State) (t : Turn) : Type 0 where
  pub stores : Each (IsReached i s.protection.mpu Write) t.stores
  pub loads : Each (λ x. IsReached i s.protection.mpu Read x ⊎ IsVectorRead i x) t.loads

abbrev pub UnprivilegedAccessesAreReached : Type 0
UnprivilegedAccessesAreReached =
    (i : Image) (s : State) → is_unprivileged s.protection ≡ true → s.core.sp % 4 ≡ 0 → AccessesAreReached i s (turn by_mpu i s)

abbrev pub VectorReadsAreAligned : Type 0
VectorReadsAreAligned = (i : Image) (x : Touched) → ObeysRules i → IsVectorRead i x → (x.width ≡ 4) × (x.address % 4 ≡ 0)

-- What one step may do to memory and protection.
use Rattle.std.specs.Prelude.{◌≡◌, ◌≢◌, ℕ, ◌+◌, ◌<◌, ◌≤◌, ◌⊎◌, List, [], ◌∷◌, true, false, Some, None, nat_lt}
use Rattle.base_laws.specs.Lists.{Each}
use Rattle.machine_protection.specs.declared.region.Access.TheVariants.{Fetch}
use Rattle.machine_devices.specs.declared.image.Image.{Image}
use Rattle.base_events.specs.declared.event.Event.{Event}
use Rattle.machine_bus.specs.Locations.{InRam, InFlash, InWindow, choose, location}
use Rattle.machine_bus.specs.Bus.{fetch_at}
use Rattle.machine_devices.specs.Rules.{ObeysRules}
use Rattle.machine_model.specs.State.{State, Touched, Turn, PermissionTest}
use Rattle.machine_model.specs.Exceptions.{vector_offset, mem_manage, supervisor_call, fetch_fault}
use Rattle.machine_model.specs.Step.{turn}

-- byte k of RAM lies outside an access
abbrev pub Misses : Image → ℕ → Touched → Type 0
Misses i k x = (o : ℕ) → location i x.address ≡ InRam o → (k < o) ⊎ (o + x.width ≤ k)

-- the read of a vector at an exception entry
abbrev pub IsVectorRead : Image → Touched → Type 0
IsVectorRead i x =
    (x ≡ record { width = 4; address = i.flash_base + vector_offset mem_manage }) ⊎ (x ≡ record { width = 4; address = i.flash_base + vector_offset supervisor_call })

-- the step entered an exception
abbrev pub HasEntered : State → Turn → Type 0
HasEntered s t = t.to.protection ≡ record s.protection { handler = true }

-- some element
abbrev pub AnyOf : {A : Type 0} → (A → Type 0) → List A → Type 0
AnyOf P [] = ⊥
AnyOf P (x ∷ xs) = P x ⊎ AnyOf P xs

-- an event of what a step answers is one of its stores or of its loads, at a location of a window
abbrev pub ListsEvent : Image → Turn → Type 0
ListsEvent i t = (e : Event) → t.event ≡ Some e → AnyOf (λ (x : Touched). (x.width ≡ e.width) × (location i x.address ≡ InWindow e.periph e.offset)) (choose e.write t.stores t.loads)

abbrev pub EventsAreListed : Type 0
EventsAreListed = (j : PermissionTest) (i : Image) (s : State) → ListsEvent i (turn j i s)

-- a machine that has not ended faults where a halfword that it fetches is not permitted
pub record FetchesArePermitted (j : PermissionTest) (i : Image) (s : State) : Type 0 where
  pub first : j s.protection Fetch s.core.pc ≡ false → turn j i s ≡ fetch_fault j i s
  pub second : (h : ℕ) → j s.protection Fetch s.core.pc ≡ true → fetch_at (location i s.core.pc) i s.ram ≡ Some h → nat_lt h 0xE800 ≡ false → j s.protection Fetch (s.core.pc + 2) ≡ false → turn j i s ≡ fetch_fault j i s

abbrev pub FetchesArePermittedAlways : Type 0
FetchesArePermittedAlways = (j : PermissionTest) (i : Image) (s : State) → s.ending ≡ None → FetchesArePermitted j i s

-- no store of any step leads to flash, which is no part of the state
abbrev pub FlashIsNeverWritten : Type 0
FlashIsNeverWritten = (j : PermissionTest) (i : Image) (s : State) → ObeysRules i → Each (λ x. (o : ℕ) → location i x.address ≢ InFlash o) (turn j i s).stores

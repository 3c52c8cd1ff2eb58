-- Beyond the program's claim: only laws, proofs and functions inside the tool cite this file.
-- Where every access of a step is permitted, protection makes no difference.
use Rattle.std.specs.Prelude.{◌≡◌, ℕ, zero, suc, ◌+◌, length, Bool, true, false, Some, nat_lt}
use Rattle.base_words.specs.Arithmetic.{word}
use Rattle.machine_thumb.specs.declared.table.Instr.{Instr}
use Rattle.machine_thumb.specs.Decoded.{decoded}
use Rattle.machine_protection.specs.declared.region.Access.{Access}
use Rattle.machine_protection.specs.declared.region.Access.TheVariants.{Read, Write, Fetch}
use Rattle.machine_devices.specs.declared.image.Image.{Image}
use Rattle.machine_bus.specs.Locations.{location, choose}
use Rattle.machine_bus.specs.Bus.{fetch_at}
use Rattle.machine_model.specs.declared.state.ProtectionState.{ProtectionState}
use Rattle.machine_model.specs.State.{State, PermissionTest}
use Rattle.machine_model.specs.Act.{Act, Changes, Loads, Stores, LoadsMany, StoresMany, GetsSpecial, SetsSpecial, Exchanges, Calls, Halts, Stops}
use Rattle.machine_model.specs.Instructions.{act}
use Rattle.machine_model.specs.Exceptions.{frame_at, return_on_psp, return_on_msp}
use Rattle.machine_model.specs.declared.answers.Fetched.TheVariants.{Took}
use Rattle.machine_model.specs.Step.{turn, fetch}

-- everything is allowed
abbrev pub free : PermissionTest
free p kind a = true

-- so many words one after another are permitted
abbrev pub AreAllowed : PermissionTest → ProtectionState → Access → (address count : ℕ) → Type 0
AreAllowed j p kind a zero = Unit {0}
AreAllowed j p kind a (suc n) = (j p kind a ≡ true) × AreAllowed j p kind (word (a + 4)) n

-- a BX to this address is an exception return: to PSP or to MSP
abbrev pub IsReturn : (psp : Bool) → State → (target : ℕ) → Type 0
IsReturn psp s v = (s.protection.handler ≡ true) × (v ≡ choose psp return_on_psp return_on_msp)

-- every access of what an instruction asks for is permitted
abbrev pub IsAllowed : PermissionTest → State → Act → Type 0
IsAllowed j s (Changes c) = Unit {0}
IsAllowed j s (Loads w a go) = j s.protection Read a ≡ true
IsAllowed j s (Stores w a v c) = j s.protection Write a ≡ true
IsAllowed j s (LoadsMany a n go) = AreAllowed j s.protection Read a n
IsAllowed j s (StoresMany a vs c) = AreAllowed j s.protection Write a (length vs)
IsAllowed j s (GetsSpecial n d c) = Unit {0}
IsAllowed j s (SetsSpecial n v c) = Unit {0}
-- an exception return reads the frame on the stack that it returns to, as Thread mode would; any other BX reads nothing
IsAllowed j s (Exchanges v) =
    (psp : Bool) → IsReturn psp s v → AreAllowed j (record s.protection { handler = false }) Read (choose psp s.core.other_sp s.core.sp) 8
IsAllowed j s (Calls next) = AreAllowed j s.protection Write (frame_at s.core.sp) 8
IsAllowed j s (Halts n) = Unit {0}
IsAllowed j s (Stops r) = Unit {0}

-- every access of a step is permitted: its fetches, and those of the instruction that is fetched
pub record IsStepAllowed (j : PermissionTest) (i : Image) (s : State) : Type 0 where
  pub first : j s.protection Fetch s.core.pc ≡ true
  pub second : (h : ℕ) → fetch_at (location i s.core.pc) i s.ram ≡ Some h → nat_lt h 0xE800 ≡ false → j s.protection Fetch (s.core.pc + 2) ≡ true
  pub data_accesses : (h k size : ℕ) (x : Instr) → fetch free i s ≡ Took h k size → decoded h k ≡ Some x → IsAllowed j s (act x (s.core.pc + size) s.core)

abbrev pub AllowedStepsAreFree : Type 0
AllowedStepsAreFree = (j : PermissionTest) (i : Image) (s : State) → IsStepAllowed j i s → turn j i s ≡ turn free i s

-- Beyond the program's claim: only laws, proofs and functions inside the tool cite this file.
-- The guard: the bytes below the stack, in which no compartment may store. There a thread that runs out of stack is refused.
use Rattle.std.specs.Prelude.{◌≡◌, ℕ, ◌+◌, ◌<◌, ◌≤◌, List, length, true, false}
use Rattle.machine_protection.specs.declared.region.Region.{Region}
use Rattle.machine_protection.specs.declared.region.Access.TheVariants.{Write}
use Rattle.machine_protection.specs.Regions.{holds, permission}
use Rattle.machine_devices.specs.declared.image.Image.{Image}
use Rattle.machine_model.specs.State.{State, by_mpu}
use Rattle.machine_model.specs.Confinement.{AnyOf}
use Rattle.machine_model.specs.Exceptions.{is_fault_enabled}
use Rattle.machine_model.specs.RunningCode.{Context}
use Rattle.monitor_model.specs.declared.tables.Tables.{Tables}
use Rattle.monitor_model.specs.Records.{compartment_at}
use Rattle.monitor_model.specs.Placed.{Placed}
use Rattle.monitor_model.specs.Block.{MonitorBlock}
use Rattle.monitor_model.specs.Invariant.{Invariant, InvariantHolds}
use Rattle.monitor_model.specs.MonitorCode.{MonitorCode}
use Rattle.monitor_model.specs.MonitorLaw.{MonitorLaw}
use Rattle.monitor_model.specs.Setting.{Setting, setting_of}
use Rattle.monitor_model.specs.Threads.{base}
use Rattle.monitor_sound.specs.Accesses.{StubStands}
use Rattle.monitor_sound.specs.HaltingCalls.{ShortCalls}
use Rattle.refine.specs.Ends.{guard_bytes}

-- no slot that all may write holds one of these bytes, of whatever compartment
abbrev pub IsGuarded : Image → Tables → Type 0
IsGuarded i t =
    (c a : ℕ) → c < length t.comps → a < t.stack.base → t.stack.base ≤ a + guard_bytes →
    AnyOf (λ (g : Region). (holds g a ≡ true) × (permission g ≡ 3)) (compartment_at t c).slots → ⊥

abbrev pub GuardsRefuse : Type 0
GuardsRefuse =
    (i : Image) (t : Tables) (m : MonitorBlock) (s : State) (a : ℕ) → Placed i t → IsGuarded i t → InvariantHolds i t m s →
    a < t.stack.base → t.stack.base ≤ a + guard_bytes → by_mpu s.protection Write a ≡ false

-- what a simulation takes of the stack's end, beside the monitor's law
pub record StackLaw (g : Setting) (Inv : MonitorBlock → Context → List ℕ → Type 0) : Type 0 where
  pub refuses : (m : MonitorBlock) (x : Context) (ram : List ℕ) (a : ℕ) → Inv m x ram → a < base g + g.stack → base g + g.stack ≤ a + guard_bytes → by_mpu x.protection Write a ≡ false
  pub thread : (m : MonitorBlock) (x : Context) (ram : List ℕ) → Inv m x ram → x.protection.handler ≡ false
  pub enabled : (m : MonitorBlock) (x : Context) (ram : List ℕ) → Inv m x ram → is_fault_enabled x.status ≡ true
  pub calls : ShortCalls g Inv
  -- an eighth has room for an exception's frame
  pub deep : 32 ≤ g.eighth

abbrev pub GuardsServe : Type 0
GuardsServe =
    (code : MonitorCode) (i : Image) (t : Tables) → Placed i t → StubStands i t (code.stub t) → MonitorLaw i t (code.stub t) → IsGuarded i t → StackLaw (setting_of code i t) (Invariant i t)

-- The state of a machine, and what a step answers.
use Rattle.std.specs.Prelude.{ℕ, ◌-◌, ◌*◌, ◌/◌, List, [], Bool, true, false, not, ◌&&◌, Option, Some, None, nat_eq, nat_lt, if◌then◌else◌}
use Rattle.std.proofs.Math.ListN.{get_or, set}
use Rattle.machine_protection.specs.declared.region.Access.{Access}
use Rattle.machine_protection.specs.Protection.{permits}
use Rattle.base_events.specs.declared.event.Event.{Event}
use Rattle.machine_model.specs.declared.state.CoreRegisters.{CoreRegisters}
use Rattle.machine_model.specs.declared.state.ProtectionState.{ProtectionState}
use Rattle.machine_model.specs.declared.state.FaultStatus.{FaultStatus}
use Rattle.machine_model.specs.declared.state.End.{End}
use Rattle.machine_model.specs.declared.state.End.TheVariants.{Stop}
use Rattle.machine_model.specs.declared.state.StopReason.{StopReason}

pub record State : Type 0 where
  pub core : CoreRegisters
  pub protection : ProtectionState
  pub status : FaultStatus
  pub ram : List ℕ
  -- the recorded words that each window has left
  pub queues : List (List ℕ)
  pub ending : Option End

-- an access that a step completed
pub record Touched : Type 0 where
  pub width : ℕ
  pub address : ℕ

-- what a step answers: the next state, the stores and loads that it completed, in order, and its event
pub record Turn : Type 0 where
  pub to : State
  pub stores : List Touched
  pub loads : List Touched
  pub event : Option Event

-- unprivileged are Thread mode's instructions where CONTROL.nPRIV is set (B1.3.1)
abbrev pub is_unprivileged : ProtectionState → Bool
is_unprivileged p = not p.handler && p.unprivileged

-- the test of permission that a step is made under
abbrev pub PermissionTest : Type 0
PermissionTest = ProtectionState → Access → ℕ → Bool

-- by the protection unit
unfoldable pub by_mpu : PermissionTest
by_mpu p kind a = permits p.mpu (is_unprivileged p) kind a

-- a step without accesses
abbrev pub calm : State → Turn
calm s = record { to = s; stores = []; loads = []; event = None }

-- the machine ends, and nothing else changes
abbrev pub ends : End → State → Turn
ends e s = calm (record s { ending = Some e })

abbrev pub stops : StopReason → State → Turn
stops r s = ends (Stop r s.core.pc) s

abbrev pub with_core : State → CoreRegisters → State
with_core s c = record s { core = c }

-- registers r0 to r7
abbrev pub low_register : CoreRegisters → ℕ → ℕ
low_register c k = get_or c.low k 0

abbrev pub with_low : CoreRegisters → ℕ → ℕ → CoreRegisters
with_low c k v = record c { low = set c.low k v }

abbrev pub at : CoreRegisters → ℕ → CoreRegisters
at c next = record c { pc = next }

abbrev pub low_at : CoreRegisters → (next register value : ℕ) → CoreRegisters
low_at c next k v = record c { low = set c.low k v; pc = next }

-- the stack pointer's low two bits are 0 (B1.4.1)
abbrev pub with_sp : CoreRegisters → ℕ → CoreRegisters
with_sp c v = record c { sp = v / 4 * 4 }

-- registers r0 to r15 (B1.4.7, R[])
abbrev pub register : CoreRegisters → ℕ → ℕ
register c k =
    if nat_lt k 8 then get_or c.low k 0
    else if nat_lt k 13 then get_or c.high (k - 8) 0
    else if nat_eq k 13 then c.sp
    else if nat_eq k 14 then c.lr
    else c.pc

abbrev pub with_register : CoreRegisters → ℕ → ℕ → CoreRegisters
with_register c k v =
    if nat_lt k 8 then record c { low = set c.low k v }
    else if nat_lt k 13 then record c { high = set c.high (k - 8) v }
    else if nat_eq k 13 then with_sp c v
    else record c { lr = v }

abbrev pub bit_of : Bool → ℕ
bit_of true = 1
bit_of false = 0

-- Beyond the program's claim: only laws, proofs and functions inside the tool cite this file.
-- The mode in which a list of privileged steps ends.
use Rattle.std.specs.Prelude.{◌≡◌, Bool}
use Rattle.machine_devices.specs.declared.image.Image.{Image}
use Rattle.machine_model.specs.State.{PermissionTest}
use Rattle.monitor_steps.specs.Steps.{PrivilegedSteps}
use Rattle.monitor_steps.specs.Core.{Core}
use Rattle.monitor_steps.specs.Effect.{Outcome, Went, Halted, AtReturn, AtBranch, Stopped, Unclaimed, effect}

-- the outcome is in Handler mode, or not
abbrev pub InMode : (handler : Bool) → Outcome → Type 0
InMode h (Went d) = d.protection.handler ≡ h
InMode h (Halted n d) = d.protection.handler ≡ h
InMode h (AtReturn d) = d.protection.handler ≡ h
InMode h (AtBranch to link d) = d.protection.handler ≡ h
InMode h (Stopped r d) = d.protection.handler ≡ h
InMode h Unclaimed = Unit {0}

abbrev pub ListsKeepTheMode : Type 0
ListsKeepTheMode = (h : Bool) (j : PermissionTest) (i : Image) (s : PrivilegedSteps) (c : Core) → c.protection.handler ≡ h → InMode h (effect j i s c)

-- Beyond the program's claim: only laws, proofs and functions inside the tool cite this file.
-- The calls of the monitor that end the machine for want of stack, though an exception's frame fits.
use Rattle.std.specs.Prelude.{◌≡◌, ℕ, ◌+◌, ◌-◌, ◌/◌, ◌≤◌, List, [], length, true, Some}
use Rattle.std.proofs.Math.ListN.{get_or}
use Rattle.base_words.specs.declared.conditions.Flags.{Flags}
use Rattle.machine_thumb.specs.Table.{svc}
use Rattle.machine_devices.specs.declared.image.Image.{Image}
use Rattle.machine_model.specs.declared.state.End.TheVariants.{Halt}
use Rattle.machine_model.specs.State.{State, by_mpu}
use Rattle.machine_model.specs.Code.{HoldsHalf, Runs}
use Rattle.machine_model.specs.RunningCode.{Context, works}
use Rattle.monitor_model.specs.declared.tables.Tables.{Tables}
use Rattle.monitor_model.specs.Placed.{Placed}
use Rattle.monitor_model.specs.Block.{MonitorBlock}
use Rattle.monitor_model.specs.Invariant.{Invariant}
use Rattle.monitor_model.specs.MonitorCode.{MonitorCode}
use Rattle.monitor_model.specs.MonitorLaw.{MonitorLaw}
use Rattle.monitor_model.specs.Setting.{Setting, setting_of}
use Rattle.monitor_model.specs.Threads.{call_steps, lend_steps, base, AtInstr}
use Rattle.monitor_sound.specs.Accesses.{StubStands}

-- so many steps at most, without an event, lead to this halt
pub record HaltsBy (g : Setting) (number most : ℕ) (from : State) : Type 0 where
  pub count : ℕ
  pub least : 1 ≤ count
  pub within : count ≤ most
  pub last : State
  pub over : last.ending ≡ Some (Halt number)
  pub runs : Runs by_mpu g.image count from last []

pub record ShortCalls (g : Setting) (Inv : MonitorBlock → Context → List ℕ → Type 0) : Type 0 where
  -- a lend while as many loans live as the monitor keeps
  pub no_loan : (m : MonitorBlock) (x : Context) (low : List ℕ) (o lr pc : ℕ) (f : Flags) (ram : List ℕ) (queues : List (List ℕ)) →
      AtInstr g Inv m x low o lr pc f ram queues (svc 2) → length m.loans ≡ 32 → HaltsBy g 6 lend_steps (works x low (base g + o) lr pc f ram queues)
  -- a call across below which no whole eighth of the stack is left
  pub no_eighth : (m : MonitorBlock) (x : Context) (low : List ℕ) (o lr pc : ℕ) (f : Flags) (ram : List ℕ) (queues : List (List ℕ)) (site entry target : ℕ) →
      AtInstr g Inv m x low o lr pc f ram queues (svc 0) → HoldsHalf g.image (pc + 2) site → g.has_target site (pc + 2) entry target ≡ true →
      get_or x.high 4 0 ≡ entry + 1 → (o - 32 - g.stack) / g.eighth ≡ 0 → HaltsBy g 5 call_steps (works x low (base g + o) lr pc f ram queues)

abbrev pub PlacedCallsRunShort : Type 0
PlacedCallsRunShort =
    (code : MonitorCode) (i : Image) (t : Tables) → Placed i t → StubStands i t (code.stub t) → MonitorLaw i t (code.stub t) → ShortCalls (setting_of code i t) (Invariant i t)

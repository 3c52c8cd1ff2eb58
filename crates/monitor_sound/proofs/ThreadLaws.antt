-- What the laws below take of the machine, of the protection unit and of confinement; and states of threads.
use Rattle.std.proofs.Common.{◌≡◌, ℕ, zero, suc, ◌+◌, ◌<◌, [], Bool, Option, None, refl, sym, ap, subst, arith}
use Rattle.base_words.specs.declared.conditions.Flags.{Flags}
use Rattle.base_words.specs.Runs.{run, events}
use Rattle.machine_thumb.specs.declared.table.Instr.{Instr}
use Rattle.machine_devices.specs.declared.image.Image.{Image}
use Rattle.machine_model.specs.declared.state.End.{End}
use Rattle.machine_model.specs.State.{State, PermissionTest}
use Rattle.machine_model.specs.Instructions.{act}
use Rattle.machine_model.specs.AccessLaw.{AllowedStepsAreFree}
use Rattle.machine_model.specs.Asked.{DoesAct, StandingActsAreDone}
use Rattle.machine_model.specs.Code.{size, Stands, live}
use Rattle.machine_model.specs.Perform.{perform}
use Rattle.machine_model.specs.Resumed.{TellsThread}
use Rattle.machine_model.specs.Running.{StepsAreActs}
use Rattle.machine_model.specs.Shape.{StepsKeepShape}
use Rattle.machine_model.specs.Step.{turn, step, event}
use Rattle.machine_model.specs.InstructionEffects.{EachWorks, TransferSteps}
use Rattle.machine_model.specs.ThreadStep.{UnprivilegedStepsAreThreadSteps}
use Rattle.monitor_confined.specs.ThreadSteps.{ThreadStepsLead}
use Rattle.monitor_confined.specs.WholeRuns.{ChangesKeepOrder}
use Rattle.monitor_confined.proofs.Reaches.{UnitLaws}
use Rattle.monitor_confined.proofs.EntryWords.{FrameLaws}

pub record ThreadLaws : Type 0 where
  pub unit : UnitLaws
  pub frames : FrameLaws
  pub performed : StepsAreActs
  pub allowed : AllowedStepsAreFree
  pub steps : UnprivilegedStepsAreThreadSteps
  pub done : StandingActsAreDone
  pub shape : StepsKeepShape
  pub transfers : EachWorks TransferSteps
  pub status : (f : Flags) (pad : Bool) → TellsThread f pad
  pub lead : ThreadStepsLead
  pub order : ChangesKeepOrder

-- ---- a machine that has not ended

pub live_is : (s : State) → s.ending ≡ None → s ≡ live s.core s.protection s.status s.ram s.queues
live_is s e = ap (λ (o : Option End). record s { ending = o }) e

pub performed_at : StepsAreActs → (j : PermissionTest) (i : Image) (s : State) (x : Instr) → s.ending ≡ None → Stands j i s.protection s.core.pc x →
    turn j i s ≡ perform j i (act x (s.core.pc + size x) s.core) s
performed_at law j i s x e st =
    subst (λ (z : State). turn j i z ≡ perform j i (act x (s.core.pc + size x) s.core) z) (sym (live_is s e)) (law j i s.core s.protection s.status s.ram s.queues x st)

pub done_at : StandingActsAreDone → (j : PermissionTest) (i : Image) (s : State) (x : Instr) → s.ending ≡ None → Stands j i s.protection s.core.pc x →
    DoesAct j i s (act x (s.core.pc + size x) s.core) (turn j i s)
done_at law j i s x e st =
    subst (λ (z : State). DoesAct j i z (act x (s.core.pc + size x) s.core) (turn j i z)) (sym (live_is s e)) (law j i s.core s.protection s.status s.ram s.queues x st)

-- ---- runs without an event

pub quiet_events : (i : Image) (k : ℕ) (s : State) → ((n : ℕ) → n < k → event i (run (step i) n s) ≡ None) → events (step i) (event i) k s ≡ []
unfolding run events
quiet_events i zero s q = refl
quiet_events i (suc k) s q =
    let e : event i s ≡ None = q 0 (omega arith) in
    rw e (quiet_events i k (step i s) (λ n lt. q (suc n) (omega (arith, lt))))

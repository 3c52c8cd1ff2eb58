-- Beyond the program's claim: only laws, proofs and functions inside the tool cite this file.
-- One source step is followed by the machine.
use Rattle.std.specs.Prelude.{◌≡◌, ℕ, ◌+◌, ◌*◌, ◌≤◌, List, [], ◌∷◌, option_to_list}
use Rattle.machine_devices.specs.declared.image.Image.{Image}
use Rattle.base_events.specs.declared.event.Event.{Event}
use Rattle.machine_model.specs.State.{State, by_mpu}
use Rattle.machine_model.specs.Code.{Runs}
use Rattle.machine_model.specs.RunningCode.{Context}
use Rattle.ir_model.specs.Resolved.{Here}
use Rattle.ir_model.specs.State.{Frame, Memory, SourceState}
use Rattle.ir_model.specs.Step.{turn_here}
use Rattle.ir_laws.specs.Moves.{Where}
use Rattle.monitor_model.specs.Block.{MonitorBlock}
use Rattle.refine_model.specs.Refines.{HasFault, step_limit}
use Rattle.refine.specs.Builds.{Build, words_at}
use Rattle.refine.specs.Relation.{site_of, ceiling_by, AllAmple, Related}

-- so many steps at most lead to a state that belongs to this source state
pub record FollowsBy (R : SourceState → State → Type 0) (i : Image) (most : ℕ) (from : State) (s : SourceState) (es : List Event) : Type 0 where
  pub steps : ℕ
  pub least : 1 ≤ steps
  pub within : steps ≤ most
  pub to : State
  pub runs : Runs by_mpu i steps from to es
  pub related : R s to

module _ (k : Build) (Inv : MonitorBlock → Context → List ℕ → Type 0) (places : ℕ → ℕ) where
  abbrev pub Follows : (from : State) (s : SourceState) (es : List Event) → Type 0
  Follows t s es = FollowsBy (Related k places Inv) k.setting.image step_limit t s es

  -- the step from a place where this stands, if it meets no fault
  abbrev pub CaseFollows : (fr : Frame) (rest : List Frame) (m : Memory) (t : State) → Here → Type 0
  CaseFollows fr rest m t h =
      (HasFault (turn_here k.program k.groups.of fr rest m h).to → ⊥)
      → Follows t (turn_here k.program k.groups.of fr rest m h).to (option_to_list (turn_here k.program k.groups.of fr rest m h).event)

  -- where the first of these frames has to lie, if it fits
  abbrev pub LiesFirst : List Where → Type 0
  LiesFirst [] = Unit {0}
  LiesFirst (v ∷ vs) = (o : ℕ) → o + 4 * words_at k v.func + 4 ≡ ceiling_by k places (site_of k vs) vs → k.setting.stack ≤ o → places v.number ≡ o

  -- before a step or behind it the frames are not all within the stack limit
  abbrev pub IsBeyond : (now next : List Where) → Type 0
  IsBeyond now next = AllAmple k places now → AllAmple k places next → ⊥

-- Beyond the program's claim: only laws, proofs and functions inside the tool cite this file.
-- One source step is followed by the machine, or leads beyond the stack limit.
use Rattle.std.specs.Prelude.{ℕ, ◌⊎◌, List, ◌∷◌, option_to_list}
use Rattle.base_events.specs.declared.event.Event.{Event}
use Rattle.machine_model.specs.State.{State}
use Rattle.machine_model.specs.RunningCode.{Context}
use Rattle.ir_model.specs.Types.{PlainType}
use Rattle.ir_model.specs.Resolved.{Here, here}
use Rattle.ir_model.specs.State.{Frame, Memory, SourceState, Running}
use Rattle.ir_model.specs.Step.{turn_here}
use Rattle.ir_laws.specs.Moves.{Where, where_of, wheres, wheres_of}
use Rattle.ir_laws.specs.Sets.{ObjectSets}
use Rattle.ir_laws.specs.States.{StateFits}
use Rattle.monitor_model.specs.Block.{MonitorBlock}
use Rattle.refine_model.specs.Refines.{HasFault, step_limit}
use Rattle.refine.specs.Entries.{RunsShort}
use Rattle.refine.specs.Builds.{Build}
use Rattle.refine.specs.Relation.{Stands}
use Rattle.refine.specs.Cases.{Follows, LiesFirst, IsBeyond}

module _ (k : Build) (Inv : MonitorBlock → Context → List ℕ → Type 0) (places : ℕ → ℕ) where
  -- a step is followed; or it leads beyond the stack limit, and where the law of the stack holds the machine ends
  abbrev pub Serves : (now : List Where) (from : State) (s : SourceState) (es : List Event) → Type 0
  Serves now t s es = Follows k Inv places t s es ⊎ RunsShort k.setting Inv (IsBeyond k Inv places now (wheres_of s)) step_limit t

  -- the step from a place where this stands serves, if it meets no fault
  abbrev pub CaseServes : (fr : Frame) (rest : List Frame) (m : Memory) (t : State) → Here → Type 0
  CaseServes fr rest m t h =
      (HasFault (turn_here k.program k.groups.of fr rest m h).to → ⊥) → LiesFirst k Inv places (wheres_of (turn_here k.program k.groups.of fr rest m h).to)
      → Serves (where_of fr ∷ wheres rest) t (turn_here k.program k.groups.of fr rest m h).to (option_to_list (turn_here k.program k.groups.of fr rest m h).event)

  -- the statement of all cases: from each state of a run that fits, by the sizes of types and sets of objects
  abbrev pub CasesServe : (sizes : PlainType → ℕ) → ObjectSets → Type 0
  CasesServe sizes S =
      (fr : Frame) (rest : List Frame) (m : Memory) (t : State) → Stands k places Inv (where_of fr) (wheres rest) (fr ∷ rest) m t
      → StateFits k.program sizes S (Running (fr ∷ rest) m) → CaseServes fr rest m t (here k.program fr.func fr.block fr.place)

-- A run of the source stays in the policy that the graph makes of the needs: of a planned firmware with two compartments or more.
use Rattle.std.specs.Prelude.{◌≡◌, ℕ, ◌<◌, ◌⊎◌, Bool, List, true}
use Rattle.ir_model.specs.declared.object.ObjId.{ObjId}
use Rattle.ir_model.specs.declared.object.ObjId.TheVariants.{Global, Periph, Local}
use Rattle.ir_model.specs.Plain.{PlainFirmware}
use Rattle.ir_model.specs.Resolve.{resolve}
use Rattle.ir_model.specs.Resolved.{Program}
use Rattle.ir_model.specs.State.{Object, GlobalObject, PeriphObject, LocalObject, FunctionObject, StepEffect, Nothing, Loaded, Stored, Called}
use Rattle.ir_model.specs.Step.{source_turn}
use Rattle.ir_model.specs.Runs.{source_after}
use Rattle.plan_model.specs.declared.needs.Needs.{Needs}
use Rattle.plan_model.specs.declared.graph.Final.{Final}
use Rattle.plan_model.specs.declared.plan.Board.{Board}
use Rattle.plan_model.specs.Groups.{compartment_of}
use Rattle.plan_model.specs.Permission.{may_write, may_read}
use Rattle.need_laws.specs.Reached.{HasTarget}
use Rattle.plan.specs.PlannedFirmwares.{IsPlanned}

-- the object is one of a permission, or a local of the function itself, which its own frame has
abbrev pub IsAllowed : (may : ObjId → Bool) → (func : ℕ) → Object → Type 0
IsAllowed may g (GlobalObject x) = may (Global x) ≡ true
IsAllowed may g (PeriphObject q) = may (Periph q) ≡ true
IsAllowed may g (LocalObject h l) = (h ≡ g) ⊎ (may (Local h l) ≡ true)
IsAllowed may g (FunctionObject h) = ⊥

module _ (w : PlainFirmware) (n : Needs) (f : Final) where
  abbrev p : Program
  p = resolve w

  -- a store is to what the compartment of its function may write, on a closed board a load is of what it may read, and a call goes to a
  -- target of its site
  abbrev pub IsInPolicy : StepEffect → Type 0
  IsInPolicy Nothing = Unit {0}
  IsInPolicy (Loaded g o) = n.closed ≡ true → IsAllowed (may_read p n f (compartment_of f.groups g)) g o
  IsInPolicy (Stored g o) = IsAllowed (may_write p n f (compartment_of f.groups g)) g o
  IsInPolicy (Called g b k h) = HasTarget n g b k h

  -- whatever compartments and input a run has. Where there is one compartment alone, nothing is lent
  abbrev pub RunsStayInPolicy : Type 0
  RunsStayInPolicy =
      (compartments : List ℕ) (queues : List (List ℕ)) (steps : ℕ) → 1 < f.groups.count → IsInPolicy (source_turn p compartments (source_after p compartments queues steps)).did

abbrev pub PlannedRunsStayInPolicy : Type 0
PlannedRunsStayInPolicy = (w : PlainFirmware) (n : Needs) (f : Final) (b : Board) → IsPlanned w n f b → RunsStayInPolicy w n f

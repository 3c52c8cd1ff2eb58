-- What the steps of a run reach is listed in the needs.
use Rattle.std.specs.Prelude.{◌≡◌, ℕ, List, Contains}
use Rattle.ir_model.specs.declared.object.ObjId.{ObjId}
use Rattle.ir_model.specs.Resolved.{Program}
use Rattle.ir_model.specs.State.{Object, PeriphObject, StepEffect, Nothing, Loaded, Stored, Called}
use Rattle.ir_model.specs.Objects.{object_by}
use Rattle.ir_model.specs.Step.{source_turn}
use Rattle.ir_model.specs.Runs.{source_after}
use Rattle.plan_model.specs.declared.needs.SiteNeed.{SiteNeed}
use Rattle.plan_model.specs.declared.needs.Needs.{Needs}
use Rattle.plan_model.specs.Needs.{need_of}

-- an object is one of a list
abbrev pub IsListed : List ObjId → Object → Type 0
IsListed os o = (x : ObjId) × Contains os x × (object_by x ≡ o)

-- a peripheral is one of those of a function
abbrev pub ListsPeriph : Needs → (func : ℕ) → Object → Type 0
ListsPeriph n f (PeriphObject q) = Contains (need_of n f).periphs q
ListsPeriph n f o = Unit {0}

-- a call stands at a place of function f, and may go to g
pub record HasTarget (n : Needs) (f b k g : ℕ) : Type 0 where
  pub site : SiteNeed
  pub listed : Contains n.sites site
  pub func : site.func ≡ f
  pub block : site.block ≡ b
  pub inst : site.inst ≡ k
  pub target : Contains site.targets g

-- a load reaches an object that its function may read, a store one that it may write, a call goes to a target of its site,
-- and a peripheral is one of the function's
abbrev pub IsInNeeds : Needs → StepEffect → Type 0
IsInNeeds n Nothing = Unit {0}
IsInNeeds n (Loaded f o) = IsListed (need_of n f).read o × ListsPeriph n f o
IsInNeeds n (Stored f o) = IsListed (need_of n f).written o × ListsPeriph n f o
IsInNeeds n (Called f b k g) = HasTarget n f b k g × Contains (need_of n f).callees g

-- no step of a run leaves the needs, whatever compartments and input it has
abbrev pub RunsStayInNeeds : Program → Needs → Type 0
RunsStayInNeeds p n =
    (compartments : List ℕ) (queues : List (List ℕ)) (steps : ℕ) → IsInNeeds n (source_turn p compartments (source_after p compartments queues steps)).did

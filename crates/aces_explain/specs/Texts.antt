-- Beyond the program's claim: only laws, proofs and functions inside the tool cite this file.
-- That a refusal is told in one way: the statement of a law.
use Rattle.std.specs.Prelude.{◌≡◌, ℕ, List}
use Rattle.ir_model.specs.Plain.{PlainFirmware}
use Rattle.ir_model.specs.Resolved.{Program}
use Rattle.plan_model.specs.declared.needs.Needs.{Needs}
use Rattle.plan_model.specs.declared.groups.Groups.{Groups}
use Rattle.plan_model.specs.declared.plan.Board.{Board}
use Rattle.plan.specs.declared.refusal.PlanningRefusal.{PlanningRefusal}
use Rattle.aces_explain.specs.PlanTold.{IsRefusalTold}

-- there is one text at most on a refusal
abbrev pub TextsAreOne : Type 0
TextsAreOne =
    (w : PlainFirmware) (p : Program) (n : Needs) (g : Groups) (b : Board) (r : PlanningRefusal) (x y : List ℕ)
    → IsRefusalTold w p n g b r x → IsRefusalTold w p n g b r y → x ≡ y

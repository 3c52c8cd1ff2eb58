use Rattle.std.proofs.Common.{Bool, cond, Result, Ok, Err}
use Rattle.plan_model.specs.declared.plan.Plan.{Plan}
use Rattle.plan_layout.specs.declared.refusal.PlaceRefusal.{PlaceRefusal}

abbrev pub tried : (a b : Bool) → (x y : PlaceRefusal) → Plan → Result Plan PlaceRefusal
tried a b x y l = cond a (Err x) (cond b (Err y) (Ok l))

-- Which compartments may reach an object, and the functions of which of them do.
use Rattle.std.specs.Prelude.{ℕ, Bool, List}
use Rattle.ir_model.specs.declared.object.ObjId.TheVariants.{Global}
use Rattle.plan_model.specs.Groups.{writes, uses}
use Rattle.plan_model.specs.InitialGraph.{compartments_that}
use Rattle.plan_model.specs.Permission.{may_write, may_read, is_covered}
use Rattle.plan_report.specs.Subjects.{Subject}
use Rattle.aces_who.specs.declared.ties.Tie.{Tie}
use Rattle.aces_who.specs.declared.ties.Tie.TheVariants.{MayWrite, MayRead, Writes, MayUse, Uses}

-- whether a compartment has this tie to a global, or to a peripheral
abbrev pub is_tied : Subject → Tie → (compartment : ℕ) → Bool
is_tied s (MayWrite x) c = may_write s.program s.needs s.graph c (Global x)
is_tied s (MayRead x) c = may_read s.program s.needs s.graph c (Global x)
is_tied s (Writes x) c = writes s.needs s.graph.groups c (Global x)
is_tied s (MayUse q) c = is_covered s.program s.graph c q
is_tied s (Uses q) c = uses s.needs s.graph.groups c q

-- the compartments that have this tie, in rising order
abbrev pub tied : Subject → Tie → List ℕ
tied s t = compartments_that s.graph.groups (is_tied s t)

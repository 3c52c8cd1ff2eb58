-- Which functions call which across compartments.
use Rattle.std.specs.Prelude.{ℕ, Bool, ◌&&◌, List, filter, nat_eq}
use Rattle.std.specs.List.{list_any}
use Rattle.plan_model.specs.declared.needs.SiteNeed.{SiteNeed}
use Rattle.plan_model.specs.Lists.{has}
use Rattle.plan_model.specs.Needs.{need_of}
use Rattle.plan_model.specs.Crossing.{crossing_sites}
use Rattle.plan_report.specs.Subjects.{Subject}

-- whether a function has a crossing site from which another one is called
abbrev pub crosses_to : Subject → (caller callee : ℕ) → Bool
crosses_to s f t = list_any (λ (k : SiteNeed). nat_eq k.func f && has k.targets t) (crossing_sites s.needs s.graph.groups)

-- the functions that it calls from such sites, in rising order; a site that crosses may also lead to a function of the same compartment
abbrev pub crossing_callees : Subject → (caller : ℕ) → List ℕ
crossing_callees s f = filter (crosses_to s f) (need_of s.needs f).callees

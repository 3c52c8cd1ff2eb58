use Rattle.std.proofs.Common.{◌≡◌, ◌∷◌, map, take}
use Rattle.plan_model.specs.Choices.{greatest}
use Rattle.plan_report.specs.Listing.{end_of, unwritten_end}
use Rattle.plan_report.proofs.totals.ram_end.Given as goal

abbrev pub invariant-loop-i : goal.invariant-loop-i
invariant-loop-i l = l.end ≡ greatest (end_of l.plan.stack ∷ end_of l.plan.monitor ∷ unwritten_end l.plan.unwritten ∷ map end_of (take l.i l.plan.regions))

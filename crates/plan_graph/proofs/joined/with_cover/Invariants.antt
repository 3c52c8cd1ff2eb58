use Rattle.std.proofs.Common.{◌≡◌, ◌∷◌, not, filter, take}
use Rattle.plan_model.specs.declared.graph.Cover.{Cover}
use Rattle.plan_model.specs.Covers.{is_inside}
use Rattle.plan_graph.proofs.joined.with_cover.Given as goal

abbrev pub invariant-loop-i : goal.invariant-loop-i
invariant-loop-i l = l.all.items ≡ l.cover ∷ filter (λ (c : Cover). not (is_inside c l.cover)) (take l.i l.covers)

use Rattle.std.proofs.Common.{◌≡◌, ◌≤◌, ◌<◌, ◌^◌, ◌-◌, ℕ, map, length, take, drop}
use Rattle.ir_model.specs.declared.object.ObjId.TheVariants.{Local}
use Rattle.plan_model.specs.Groups.{writes}
use Rattle.plan_model.specs.InitialGraph.{number_of_bits}
use Rattle.plan_graph.proofs.masks.mask.Given as goal

abbrev pub invariant-loop-left : goal.invariant-loop-left
invariant-loop-left l = record {
  inside : l.left ≤ length l.locals;
  few : l.left ≤ 32;
  small : l.mask < 2 ^ (32 - l.left);
  bits : l.mask ≡ number_of_bits (map (λ (x : ℕ × ℕ). writes l.needs l.groups l.compartment (Local x.0 x.1)) (drop l.left (take 32 l.locals)));
}

abbrev pub decreases-loop-left : goal.decreases-loop-left
decreases-loop-left l = l.left

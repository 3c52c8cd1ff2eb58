-- Beyond the program's claim: only laws, proofs and functions inside the tool cite this file.
-- The lendable locals that a compartment's functions may write or read.
use Rattle.std.specs.Prelude.{ℕ, ◌||◌}
use Rattle.ir_model.specs.declared.object.ObjId.TheVariants.{Local}
use Rattle.plan_model.specs.declared.needs.Needs.{Needs}
use Rattle.plan_model.specs.declared.groups.Groups.{Groups}
use Rattle.plan_model.specs.Groups.{writes, reads}
use Rattle.plan_model.specs.InitialGraph.{mask_where}

abbrev pub reach_mask_of : Needs → Groups → (compartment : ℕ) → ℕ
reach_mask_of n g c = mask_where n (λ x. writes n g c (Local x.0 x.1) || reads n g c (Local x.0 x.1))

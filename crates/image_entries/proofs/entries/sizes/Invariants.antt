use Rattle.std.proofs.Common.{◌≡◌, ℕ, List, map}
use Rattle.ir_program.specs.Seen.{program_of}
use Rattle.plan_model.specs.Lists.{numbers_below}
use Rattle.code_model.specs.CompartmentCode as compartments
use Rattle.image_entries.specs.Grouped.{groups_in}
use Rattle.image_entries.proofs.entries.sizes.Given as goal

abbrev pub invariant-loop-func : goal.invariant-loop-func
invariant-loop-func l =
    (cs : List ℕ) → l.sizes.items ≡ map (compartments.size_of (program_of l.program) (groups_in cs l.numbers)) (numbers_below l.func)

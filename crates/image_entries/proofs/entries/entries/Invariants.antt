use Rattle.std.proofs.Common.{◌≡◌, map}
use Rattle.plan_model.specs.Lists.{numbers_below}
use Rattle.image_entries.specs.Bases.{entry_in}
use Rattle.image_entries.proofs.entries.entries.Given as goal

abbrev pub invariant-loop-func : goal.invariant-loop-func
invariant-loop-func l =
    l.entries.items ≡ map (entry_in l.plan l.compartments l.sizes) (numbers_below l.func)

use Rattle.std.proofs.Common.{◌≡◌, fold}
use Rattle.plan_model.specs.Lists.{numbers_below}
use Rattle.image_linker.specs.Placing.{with_code_of}
use Rattle.image_linker.proofs.flash.put_codes.Given as goal

abbrev pub invariant-loop-compartment : goal.invariant-loop-compartment
invariant-loop-compartment l =
    l.flash ≡ fold (with_code_of l.making l.base) l.initial.flash (numbers_below l.compartment)

use Rattle.std.proofs.Common.{◌≡◌}
use Rattle.image_linker.specs.Standing.{standing, first_members}
use Rattle.image_linker.proofs.code.put_functions.Given as goal

abbrev pub invariant-loop-func : goal.invariant-loop-func
invariant-loop-func l =
    l.asm ≡ standing l.making l.compartment (first_members l.making l.compartment l.func)

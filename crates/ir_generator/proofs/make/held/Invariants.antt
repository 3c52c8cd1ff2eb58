use Rattle.std.proofs.Common.{◌≡◌, ◌++◌, map, drop}
use Rattle.ir_model.specs.Plain.{func_of}
use Rattle.ir_generator.specs.Made.{held_from}
use Rattle.ir_generator.proofs.make.held.Given as goal

-- behind the functions so far stand those of the choices that are left
abbrev pub invariant-loop-number : goal.invariant-loop-number
invariant-loop-number l = map func_of l.funcs.items ++ held_from l.number l.file (drop l.number l.choices) ≡ held_from 0 l.file l.choices

use Rattle.std.proofs.Common.{◌≡◌, map}
use Rattle.ir_program.specs.Seen.{program_of}
use Rattle.plan_model.specs.Lists.{numbers_below}
use Rattle.plan_crossings.specs.Seen.{seen_sites}
use Rattle.plan_sizes.specs.Parts.{function_bytes}
use Rattle.plan_sizes.proofs.functions.all_bytes.Given as goal

abbrev pub invariant-loop-func : goal.invariant-loop-func
invariant-loop-func l = l.all.items ≡ map (function_bytes (program_of l.program) (seen_sites l.sites) l.lent) (numbers_below l.func)

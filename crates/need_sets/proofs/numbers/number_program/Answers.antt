use Rattle.std.proofs.Common.{arith}
use Rattle.std.proofs.lemmas.List.{length-map}
use Rattle.ir_program.specs.Parts.{routine_of}
use Rattle.ir_program.specs.Seen.{program_of, known_of}
use Rattle.need_sets.proofs.Counted.{object_group_count}
use Rattle.need_sets.proofs.numbers.number_program.Goals as goal

pub invariant_of-result : goal.invariant_of-result
invariant_of-result c =
    let n = length-map c.args.program.now.funcs (routine_of (known_of c.args.program.now)) in
    object_group_count (program_of c.args.program.now) c.in_ok-objects.objects c.in_ok-funcs.funcs c.in_ok-objects.ensures (omega (arith, n))

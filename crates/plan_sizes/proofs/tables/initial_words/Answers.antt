use Rattle.std.proofs.Common.{ap, ◌∙◌, arith}
use Rattle.ir_program.specs.Seen.{program_of}
use Rattle.plan_model.specs.TableSize.{words_in}
use Rattle.plan_sizes.proofs.Same.{words_are}
use Rattle.plan_sizes.proofs.tables.initial_words.Goals as goal

pub returns : goal.returns
returns c =
    let p = program_of c.args.program.now in
    let whole = words_are p c.args.fin.now in
    let others = c.in_ok-others.ensures.value ∙ ap (words_in p) c.as_slice.ensures in
    omega (arith, whole, c.in_ok-words.ensures, others, c.in_ok-total.ensures)

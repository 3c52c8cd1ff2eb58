use Rattle.std.proofs.Common.{◌≡◌, length, map, ap, ◌∙◌, arith}
use Rattle.ir_program.specs.Seen.{program_of}
use Rattle.plan_model.specs.Lists.{numbers_below}
use Rattle.code_model.specs.CompartmentCode as compartments
use Rattle.image_entries.specs.Grouped.{groups_in}
use Rattle.image_entries.proofs.entries.sizes.Goals as goal
use Rattle.plan_model.proofs.Numbers.{mapped_more}

pub loop-func-preserved : goal.loop-func-preserved
loop-func-preserved c = λ cs.
    mapped_more (compartments.size_of (program_of c.args.program.now) (groups_in cs c.args.numbers.now)) c.loop-func.func c.loop-func.sizes.items _ _ (c.loop-func.invariant cs) (c.in-Some.ensures cs) c.in_ok-push.ensures.items

pub returns : goal.returns
returns c = λ cs.
    let n = length c.args.program.now.funcs in
    let e : c.loop-func.func ≡ n = omega (arith, c.loop-func-test.false, c.loop-func.auto, c.len-func-end.ensures) in
    c.loop-func.invariant cs ∙ ap (λ k. map (compartments.size_of (program_of c.args.program.now) (groups_in cs c.args.numbers.now)) (numbers_below k)) e

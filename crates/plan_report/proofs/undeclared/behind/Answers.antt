use Rattle.std.proofs.Common.{get_or, refl, sym, ◌∙◌, arith}
use Rattle.ir_program.specs.declared.program.Span.{Span}
use Rattle.plan_graph.proofs.Windows.{no_span}
use Rattle.plan_report.proofs.Spans.{among, inside, declared_at}
use Rattle.plan_report.proofs.undeclared.behind.Goals as goal

pub returns-then-has-clause-within : goal.returns-then-has-clause-within
returns-then-has-clause-within c =
    let x : Span = get_or c.args.spans.now c.loop-i.i no_span in
    let here = inside x.base x.size c.args.address (sym c.has.ensures ∙ c.if-has.true) in
    let end = c.end_of.ensures in
    λ a l h. declared_at c.args.spans.now c.loop-i.i x no_span a c.loop-i-test.true refl (among x.base x.size a (omega (arith, here.0, l)) (omega (arith, end, h)))

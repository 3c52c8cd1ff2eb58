use Rattle.std.proofs.Common.{◌+◌, ◌-◌, List, map, get_or, refl, ap, ◌∙◌, arith}
use Rattle.std.proofs.lemmas.List.{take_all}
use Rattle.ir_program.specs.declared.program.Span.{Span}
use Rattle.ir_program.specs.Parts.{span_of}
use Rattle.plan_graph.proofs.Windows.{no_span}
use Rattle.plan_report.specs.Undeclared.{undeclared_from}
use Rattle.plan_report.proofs.Spans.{first_of_none, first_more}
use Rattle.plan_report.proofs.undeclared.first_declared.Goals as goal

pub loop-i-init : goal.loop-i-init
loop-i-init c = record { count = first_of_none c.args.at c.args.end c.requires; least = c.requires }

pub loop-i-preserved : goal.loop-i-preserved
loop-i-preserved c =
    let first = c.first_in-first.ensures in
    record {
      count = first_more c.args.spans.now c.loop-i.i (get_or c.args.spans.now c.loop-i.i no_span) no_span c.args.at c.args.end c.loop-i.first c.first_in-first.result c.loop-i-test.true refl c.loop-i.invariant.count first;
      least = omega (arith, first);
    }

pub returns : goal.returns
returns c =
    c.loop-i.invariant.count
    ∙ ap (λ (xs : List Span). c.args.at + undeclared_from (map span_of xs) c.args.at (c.args.end - c.args.at)) (take_all c.loop-i.i c.args.spans.now c.loop-i-test.false)

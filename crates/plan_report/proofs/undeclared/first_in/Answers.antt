use Rattle.std.proofs.Common.{arith}
use Rattle.ir_program.specs.Parts.{span_of}
use Rattle.plan_report.proofs.Spans.{first_here, first_behind}
use Rattle.plan_report.proofs.undeclared.first_in.Goals as goal
use Rattle.plan_report.proofs.undeclared.first_in.Goals.{else-first-end-via-then-first-end+else-first-end_of, else-first-end-via-else-first-end}

pub returns-then-first-end_of : goal.returns-then-first-end_of
returns-then-first-end_of c =
    let most = c.max-first.ensures in
    let base = c.from.ensures in
    let behind = c.end_of.ensures in
    let inside = c.if-first-end_of.true in
    first_here (span_of c.args.span.now) c.args.at c.args.end c.max-first.result (omega (arith, most)) (omega (arith, most, base)) (λ x l h. omega (arith, most, base, l, h)) c.if-first-end.true (omega (arith, behind, inside))

pub returns-else-first-end : goal.returns-else-first-end
returns-else-first-end c =
    let most = c.max-first.ensures in
    let base = c.from.ensures in
    elim c.else-first-end.branch [
      | else-first-end-via-then-first-end+else-first-end_of w ↦
          let behind = w.end_of.ensures in
          let outside = w.if-first-end_of.false in
          first_behind (span_of c.args.span.now) c.args.at c.args.end c.requires (λ x l h b. omega (arith, most, base, behind, outside, l, b))
      | else-first-end-via-else-first-end w ↦
          let late = w.if-first-end.false in
          first_behind (span_of c.args.span.now) c.args.at c.args.end c.requires (λ x l h b. omega (arith, most, base, late, l, h, b))
    ]

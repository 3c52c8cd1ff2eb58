use Rattle.std.proofs.Common.{◌<◌, ◌++◌, ℕ, List, length, take, map, flat_map, ap, subst, ◌∙◌}
use Rattle.ir_program.specs.declared.program.Span.{Span}
use Rattle.ir_program.specs.Parts.{span_of}
use Rattle.plan_model.specs.declared.graph.Cover.{Cover}
use Rattle.plan_model.specs.Covers.{cover_at, no_cover}
use Rattle.plan_report.specs.Subjects.{Subject, subject_of}
use Rattle.plan_report.specs.CompartmentLines.{covers, undeclared_line, undeclared_in}
use Rattle.plan_report.specs.Undeclared.{undeclared_ranges}
use Rattle.plan_report.proofs.Growing.{item_more, put_each}
use Rattle.plan_report.proofs.undeclared.put_undeclared.Goals as goal

pub loop-i-preserved : goal.loop-i-preserved
loop-i-preserved c =
    let s : Subject = subject_of c.args.subject.now in
    let ds : List Cover = covers s c.args.compartment in
    let i : ℕ = c.loop-i.i in
    let d : Cover = c.cover_at.result in
    put_each (undeclared_in s c.args.words.now) (take i ds) _ d c.args.text.now c.loop-i.text _
    (item_more ds i d no_cover (subst (λ (xs : List Cover). i < length xs) c.covers_of-covers.ensures c.loop-i-test.true) (c.cover_at.ensures ∙ ap (λ (xs : List Cover). cover_at xs i) c.covers_of-covers.ensures))
    c.loop-i.invariant
    (c.in_ok-put_ranges.ensures ∙ ap (λ (xs : List Span). c.loop-i.text ++ flat_map (undeclared_line c.args.words.now) (undeclared_ranges (map span_of xs) d)) c.as_slice-spans.ensures)

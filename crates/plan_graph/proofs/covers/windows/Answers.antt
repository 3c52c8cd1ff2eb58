use Rattle.std.proofs.Common.{◌≡◌, ℕ, ◌<◌, Bool, length, map, filter, ap, sym, ◌∙◌, arith}
use Rattle.std.proofs.lemmas.List.{length-map}
use Rattle.ir_program.specs.Parts.{span_of}
use Rattle.ir_program.specs.Seen.{program_of}
use Rattle.plan_model.specs.Groups.{uses}
use Rattle.plan_model.specs.InitialGraph.{cover_of}
use Rattle.plan_model.specs.Lists.{numbers_below}
use Rattle.plan_graph.proofs.Windows.{cover_read}
use Rattle.plan_graph.proofs.covers.windows.Goals as goal
use Rattle.plan_graph.proofs.covers.windows.Goals.{then-uses+in_ok-push, else-uses}
use Rattle.plan_model.proofs.Numbers.{kept_more as window_kept, dropped_more as window_dropped}

pub loop-periph-preserved : goal.loop-periph-preserved
loop-periph-preserved c =
    let test : ℕ → Bool = uses c.args.needs.now c.args.groups.now c.args.compartment in
    let spans = ap length c.as_slice-spans.ensures in
    let there : c.loop-periph.periph < length c.args.program.now.periphs = omega arith in
    elim c.if-uses.branch [
      | then-uses+in_ok-push w ↦ window_kept (cover_of (program_of c.args.program.now)) test c.loop-periph.periph c.loop-periph.covers.items _ _ (sym c.uses.ensures ∙ w.if-uses.true) c.loop-periph.invariant (cover_read c.args.program.now c.as_slice-spans.result.now c.loop-periph.periph c.as_slice-spans.ensures there) (ap (λ v. v.items) w.covers-is ∙ w.in_ok-push.ensures.items)
      | else-uses w ↦ window_dropped (cover_of (program_of c.args.program.now)) test c.loop-periph.periph c.loop-periph.covers.items _ (sym c.uses.ensures ∙ w.if-uses.false) c.loop-periph.invariant (ap (λ v. v.items) w.covers-is)
    ]

pub returns : goal.returns
returns c =
    let spans = ap length c.as_slice-spans.ensures in
    let longer = length-map c.args.program.now.periphs span_of in
    let whole : c.loop-periph.periph ≡ length (map span_of c.args.program.now.periphs) = omega arith in
    c.loop-periph.invariant ∙ ap (λ n. map (cover_of (program_of c.args.program.now)) (filter (uses c.args.needs.now c.args.groups.now c.args.compartment) (numbers_below n))) whole

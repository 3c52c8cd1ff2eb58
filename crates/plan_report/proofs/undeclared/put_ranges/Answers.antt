use Rattle.std.proofs.Common.{◌≡◌, ◌+◌, ◌-◌, ◌<◌, ◌≤◌, ◌++◌, ℕ, nat_eq, List, map, flat_map, ap, sym, ◌∙◌, append-nil, arith}
use Rattle.std.proofs.lemmas.Bool.{or_left, eq-eqb}
use Rattle.ir_model.specs.Resolved.{NumberedWindow}
use Rattle.ir_program.specs.Parts.{span_of}
use Rattle.plan_model.specs.declared.graph.Cover.{Cover}
use Rattle.plan_model.specs.Covers.{end_of}
use Rattle.plan_report.specs.Undeclared.{Range, is_declared, undeclared_from}
use Rattle.plan_report.specs.CompartmentLines.{undeclared_line}
use Rattle.plan_report.proofs.Gaps.{ranges_from, all_ranges, no_ranges, step_some, step_none, next_edge, told_more}
use Rattle.plan_report.proofs.undeclared.put_ranges.Goals as goal
use Rattle.plan_report.proofs.undeclared.put_ranges.Goals.{then-at-first+in_ok-put_range, else-at-first}

pub loop-at-init : goal.loop-at-init
loop-at-init c =
    let ws : List NumberedWindow = map span_of c.args.spans.now in
    let d : Cover = c.args.cover.now in
    let at : c.from-at.result ≡ d.base = c.from-at.ensures in
    record {
      told = ap (λ (rs : List Range). c.args.text.now ++ flat_map (undeclared_line c.args.words.now) rs) (all_ranges ws d ∙ ap (ranges_from ws d) (sym at));
      least = omega (arith, at);
      edge = λ _. or_left (nat_eq c.from-at.result d.base) (is_declared ws (c.from-at.result - 1)) (eq-eqb c.from-at.result d.base at);
    }

pub loop-at-preserved : goal.loop-at-preserved
loop-at-preserved c =
    let ws : List NumberedWindow = map span_of c.args.spans.now in
    let d : Cover = c.args.cover.now in
    let a : ℕ = c.loop-at.at in
    let f : ℕ = c.first_declared-first.result in
    let e : ℕ = c.behind-at.result in
    let base : d.base ≤ a = c.loop-at.invariant.least in
    let end : c.from.result + c.from-2.result ≡ end_of d = let x = c.from.ensures in let y = c.from-2.ensures in omega (arith, x, y) in
    let test = c.loop-at-test.true in
    let here : a < end_of d = omega (arith, test, end) in
    let first : f ≡ a + undeclared_from ws a (end_of d - a) = c.first_declared-first.ensures ∙ ap (λ n. a + undeclared_from ws a (n - a)) end in
    let further : f ≤ e = c.behind-at.ensures.least in
    record {
      told = elim c.if-at-first.branch [
        | then-at-first+in_ok-put_range w ↦
            told_more (undeclared_line c.args.words.now) c.args.text.now c.loop-at.text _ _ (ranges_from ws d e) (record { base = a; size = f - a }) c.loop-at.invariant.told
            (step_some ws d a f e base here first further c.behind-at.ensures.further c.behind-at.ensures.within (c.loop-at.invariant.edge test) w.if-at-first.true)
            ∙ ap (λ t. t ++ flat_map (undeclared_line c.args.words.now) (ranges_from ws d e)) (sym (w.text-is ∙ w.in_ok-put_range.ensures))
        | else-at-first w ↦
            let late = w.if-at-first.false in
            c.loop-at.invariant.told
            ∙ ap (λ (rs : List Range). c.loop-at.text ++ flat_map (undeclared_line c.args.words.now) rs) (step_none ws d a f e base here first further c.behind-at.ensures.further c.behind-at.ensures.within (omega (arith, late, first)))
            ∙ ap (λ t. t ++ flat_map (undeclared_line c.args.words.now) (ranges_from ws d e)) (sym w.text-is)
      ];
      least = omega (arith, base, first, further);
      edge = λ h. next_edge ws d a f e base here first further c.behind-at.ensures.further c.behind-at.ensures.within (omega (arith, h, end));
    }

pub returns : goal.returns
returns c =
    let ws : List NumberedWindow = map span_of c.args.spans.now in
    let d : Cover = c.args.cover.now in
    let end : c.from.result + c.from-2.result ≡ end_of d = let x = c.from.ensures in let y = c.from-2.ensures in omega (arith, x, y) in
    let late = c.loop-at-test.false in
    sym (c.loop-at.invariant.told
    ∙ ap (λ (rs : List Range). c.loop-at.text ++ flat_map (undeclared_line c.args.words.now) rs) (no_ranges ws d c.loop-at.at (omega (arith, late, end)))
    ∙ append-nil c.loop-at.text)

use Rattle.std.proofs.Common.{◌≡◌, List, true, string_bytes, sym, ap, ◌∙◌}
use Rattle.std.specs.Prelude.{ℕ}
use Rattle.base_names.specs.Names.{is_name}
use Rattle.plan_model.specs.declared.denied_ranges.Denied.{Denied}
use Rattle.toml.specs.View.{view, members_view}
use Rattle.plan_board.specs.Denied.{named, range_of, ranges_of}
use Rattle.plan_board.proofs.Denials.{Entry, after, named_more}
use Rattle.plan_board.proofs.denied.ranges_of.Goals as goal

pub loop-word-preserved-in-Ok : goal.loop-word-preserved-in-Ok
loop-word-preserved-in-Ok c =
    let e : Entry = (c.in-Some.word.now, c.in-Some.value.now) in
    let left = c.next.new.self in
    let old : List Denied = c.loop-word.ranges.items in
    let t : is_name (string_bytes e.0) ≡ true = ap is_name (sym c.as_bytes.ensures.value) ∙ (sym c.is_name.ensures ∙ c.if-is_name.true) in
    let q = ap (λ (w : List ℕ). range_of w (view e.1)) (sym c.as_str.ensures.value) ∙ c.in_ok-range.ensures.ok in
    c.loop-word.invariant
    ∙ (ap (λ (es : List Entry). after old (ranges_of (named (members_view es)))) c.in-Some.ensures.steps
    ∙ (named_more old e left c.in_ok-range.range t q ∙ ap (λ (xs : List Denied). after xs (ranges_of (named (members_view left)))) (sym c.in-Ok.ensures.items)))

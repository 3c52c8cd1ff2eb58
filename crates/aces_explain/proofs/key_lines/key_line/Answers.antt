use Rattle.std.proofs.Common.{◌≡◌, ℕ, List, false, map, option_copied, below_more, sym, ◌∙◌}
use Rattle.std.specs.Borrow.{Bor}
use Rattle.aces_explain.proofs.Places.{is_at, here, found_seen, none_seen, header_passed, header_stays}
use Rattle.aces_explain.proofs.key_lines.key_line.Goals as goal
use Rattle.aces_explain.proofs.key_lines.key_line.Goals.{then-is_header, else-is_header}

pub returns-then-is_key_line : goal.returns-then-is_key_line
returns-then-is_key_line c =
    let k = c.loop-number.number in
    let ls = c.args.lines.now in
    let at = here c.args.path.now ls k (option_copied c.loop-number.header) _ _ c.loop-number-test.true c.loop-number.invariant.header c.is_key_line.ensures in
    found_seen c.args.path.now ls k c.loop-number-test.true (at ∙ c.if-is_key_line.true) c.loop-number.invariant.before

pub loop-number-preserved : goal.loop-number-preserved
loop-number-preserved c =
    let k = c.loop-number.number in
    let ls = c.args.lines.now in
    let at = here c.args.path.now ls k (option_copied c.loop-number.header) _ _ c.loop-number-test.true c.loop-number.invariant.header c.is_key_line.ensures in
    record {
      before = below_more (λ (i : ℕ). is_at c.args.path.now (map (λ (line : Bor (List ℕ)). line.now) ls) i ≡ false) k c.loop-number.invariant.before (at ∙ c.if-is_key_line.false);
      header =
          elim c.if-is_header.branch [
            | then-is_header w ↦ header_passed ls k _ c.if-is_header.header c.loop-number-test.true w.header-is (sym c.is_header.ensures ∙ w.if-is_header.true)
            | else-is_header w ↦ header_stays ls k _ c.loop-number.header c.if-is_header.header c.loop-number-test.true w.header-is c.loop-number.invariant.header (sym c.is_header.ensures ∙ w.if-is_header.false)
          ];
    }

pub returns : goal.returns
returns c = none_seen c.args.path.now c.args.lines.now c.loop-number.number c.loop-number-test.false c.loop-number.invariant.before

use Rattle.std.proofs.Common.{ℕ, ◌++◌, List, codes, take, sym, ap, ◌∙◌}
use Rattle.plan_report.proofs.Growing.{item_more, made_kept, made_dropped}
use Rattle.aces_audit.specs.SlotLines.{lies_in, window_name}
use Rattle.aces_audit.proofs.slots.put_names.Goals as goal
use Rattle.aces_audit.proofs.slots.put_names.Goals.{then-lies_in+in_ok-put_name, else-lies_in}

pub loop-window-preserved : goal.loop-window-preserved
loop-window-preserved c =
    let xs = c.args.windows.now in
    let g = c.args.region.now in
    let i = c.loop-window.window-index in
    let item = c.window-item.result in
    let named : List ℕ → List ℕ = λ n. codes " " ++ n in
    let more = item_more xs i item item c.loop-window-test.true c.window-item.is in
    elim c.if-lies_in.branch [
      | then-lies_in+in_ok-put_name w ↦ made_kept named window_name (lies_in g) (take i xs) _ item c.args.text.now c.loop-window.text _ more (sym c.lies_in.ensures ∙ w.if-lies_in.true) c.loop-window.invariant (w.text-is ∙ w.in_ok-put_name.ensures ∙ ap (λ n. c.loop-window.text ++ named n) w.as_slice.ensures)
      | else-lies_in w ↦ made_dropped named window_name (lies_in g) (take i xs) _ item c.args.text.now c.loop-window.text _ more (sym c.lies_in.ensures ∙ w.if-lies_in.false) c.loop-window.invariant w.text-is
    ]

use Rattle.std.proofs.Common.{◌<◌, ◌++◌, length, take, get_or, refl, ap, subst, ◌∙◌}
use Rattle.plan_report.proofs.Growing.{item_more, put_each}
use Rattle.aces_audit.specs.TableLines.{fill_line}
use Rattle.monitor_model.proofs.Beyond.{no_init}
use Rattle.aces_audit.proofs.records.put_fills.Goals as goal

pub loop-i-preserved : goal.loop-i-preserved
loop-i-preserved c =
    let xs = c.args.tables.now.inits in
    let i = c.loop-i.i in
    let item = get_or xs i no_init in
    put_each fill_line (take i xs) _ item c.args.text.now c.loop-i.text _ (item_more xs i item no_init (subst (λ ys. i < length ys) c.as_slice-inits.ensures c.loop-i-test.true) refl) c.loop-i.invariant
    (c.in_ok-put_fill.ensures ∙ ap (λ ys. c.loop-i.text ++ fill_line (get_or ys i no_init)) c.as_slice-inits.ensures)

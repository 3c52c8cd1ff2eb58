use Rattle.std.proofs.Common.{take, get_or, refl}
use Rattle.plan_report.proofs.Growing.{item_more, put_each}
use Rattle.aces_audit.specs.TableLines.{target_text}
use Rattle.monitor_model.proofs.Beyond.{no_target}
use Rattle.aces_audit.proofs.records.put_targets.Goals as goal

pub loop-i-preserved : goal.loop-i-preserved
loop-i-preserved c =
    let xs = c.args.targets.now in
    let i = c.loop-i.i in
    let item = get_or xs i no_target in
    put_each target_text (take i xs) _ item c.args.text.now c.loop-i.text _ (item_more xs i item no_target c.loop-i-test.true refl) c.loop-i.invariant c.in_ok-put_target.ensures

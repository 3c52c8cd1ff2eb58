use Rattle.std.proofs.Common.{◌≡◌, ℕ, ◌<◌, ◌++◌, length, get_or, ap, subst, ◌∙◌}
use Rattle.plan_model.specs.Lists.{numbers_below}
use Rattle.plan_model.proofs.Numbers.{numbers_more}
use Rattle.plan_report.proofs.Growing.{put_each}
use Rattle.monitor_model.specs.Records.{nobody, compartment_at}
use Rattle.aces_audit.specs.TableLines.{record_lines}
use Rattle.aces_audit.proofs.Beyond.{any_beyond}
use Rattle.aces_audit.proofs.compartments.put_compartments.Goals as goal

pub loop-i-preserved : goal.loop-i-preserved
loop-i-preserved c =
    let t = c.args.tables.now in
    let ws = c.args.windows.now in
    let i : ℕ = c.loop-i.i in
    let read = c.index-compartments-i.result in
    let there : i < length t.comps = subst (λ xs. i < length xs) c.as_slice-compartments.ensures c.loop-i-test.true in
    let item : read ≡ compartment_at t i = c.index-compartments-i.is ∙ ap (λ xs. get_or xs i read) c.as_slice-compartments.ensures ∙ any_beyond t.comps i read nobody there in
    put_each (λ k. record_lines ws k (compartment_at t k)) (numbers_below i) _ i c.args.text.now c.loop-i.text _ (numbers_more i) c.loop-i.invariant
    (c.in_ok-put_record.ensures ∙ ap (λ r. c.loop-i.text ++ record_lines ws i r) item)

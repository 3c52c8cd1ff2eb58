use Rattle.std.proofs.Common.{◌<◌, ◌++◌, length, take, get_or, refl, ap, subst, ◌∙◌}
use Rattle.plan_report.proofs.Growing.{item_more, put_each}
use Rattle.monitor_model.specs.Records.{no_site}
use Rattle.aces_audit.specs.TableLines.{site_line}
use Rattle.aces_audit.proofs.records.put_sites.Goals as goal

pub loop-i-preserved : goal.loop-i-preserved
loop-i-preserved c =
    let t = c.args.tables.now in
    let xs = t.sites in
    let i = c.loop-i.i in
    let item = get_or xs i no_site in
    put_each (site_line t) (take i xs) _ item c.args.text.now c.loop-i.text _ (item_more xs i item no_site (subst (λ ys. i < length ys) c.as_slice-sites.ensures c.loop-i-test.true) refl) c.loop-i.invariant
    (c.in_ok-put_site.ensures ∙ ap (λ ys. c.loop-i.text ++ site_line t (get_or ys i no_site)) c.as_slice-sites.ensures)

use Rattle.std.proofs.Common.{◌≡◌, ℕ, ◌<◌, ◌≤◌, Bool, List, length, get_or, Option, Some, option_map, nat_lt, sym, ap, ◌∙◌, lt-ltb, le-ltb, arith}
use Rattle.plan_model.specs.declared.needs.SiteNeed.{SiteNeed}
use Rattle.plan_model.specs.Crossing.{crosses}
use Rattle.plan_limits.proofs.Wide.{wide_here, not_there, not_wide}
use Rattle.plan_limits.proofs.wide_count.Goals as goal
use Rattle.plan_limits.proofs.wide_count.Goals.{else-crosses-via-then-crosses+else-len-gt-TARGET_LIMIT, else-crosses-via-else-crosses}

abbrev is_wide : SiteNeed → Bool
is_wide s = nat_lt 64 (length s.targets)

pub returns-then-len-gt-TARGET_LIMIT : goal.returns-then-len-gt-TARGET_LIMIT
returns-then-len-gt-TARGET_LIMIT c =
    let g = c.args.groups.now in
    let sites = c.args.needs.now.sites in
    let i = c.loop-site.site-index in
    let x = c.site-item.result in
    let same : get_or sites i x ≡ x = ap (λ (ss : List SiteNeed). get_or ss i x) (sym c.as_slice-site-items.ensures) ∙ sym c.site-item.is in
    let size = ap length c.as_slice-site-items.ensures in
    let there : i < length sites = omega arith in
    let many : 64 < length x.targets = omega arith in
    let here = ap (crosses g) same ∙ (sym c.crosses.ensures ∙ c.if-crosses.true) in
    let wide = ap is_wide same ∙ lt-ltb 64 (length x.targets) many in
    let found = wide_here is_wide (crosses g) sites i x there c.loop-site.invariant here wide in
    ap (λ (n : ℕ). let o : Option ℕ = Some n in o) c.len-then-len-gt-TARGET_LIMIT.ensures
    ∙ sym (ap (option_map (λ (s : SiteNeed). length s.targets)) (found ∙ ap (λ (s : SiteNeed). let o : Option SiteNeed = Some s in o) same))

pub loop-site-preserved : goal.loop-site-preserved
loop-site-preserved c =
    let g = c.args.groups.now in
    let sites = c.args.needs.now.sites in
    let i = c.loop-site.site-index in
    let x = c.site-item.result in
    let same : get_or sites i x ≡ x = ap (λ (ss : List SiteNeed). get_or ss i x) (sym c.as_slice-site-items.ensures) ∙ sym c.site-item.is in
    let size = ap length c.as_slice-site-items.ensures in
    let there : i < length sites = omega arith in
    elim c.else-crosses.branch [
      | else-crosses-via-then-crosses+else-len-gt-TARGET_LIMIT w ↦
          let few : length x.targets ≤ 64 = omega arith in
          not_wide is_wide (crosses g) sites i x there c.loop-site.invariant (ap is_wide same ∙ le-ltb 64 (length x.targets) few)
      | else-crosses-via-else-crosses w ↦ not_there is_wide (crosses g) sites i x there c.loop-site.invariant (ap (crosses g) same ∙ (sym c.crosses.ensures ∙ w.if-crosses.false))
    ]

use Rattle.std.proofs.Common.{◌&&◌, Bool, List, nat_eq, ap, sym, ◌∙◌}
use Rattle.std.specs.List.{list_any}
use Rattle.base_laws.proofs.Lists.{any_kept}
use Rattle.plan_model.specs.declared.needs.SiteNeed.{SiteNeed}
use Rattle.plan_model.specs.Crossing.{crosses}
use Rattle.plan_model.specs.Lists.{has}
use Rattle.aces_who.proofs.calls.crosses_to.Goals as goal

pub returns : goal.returns
returns c =
    let groups = c.args.subject.now.graph.now.groups in
    let mine : SiteNeed → Bool = λ k. nat_eq k.func c.args.caller && has k.targets c.args.callee in
    let leads : SiteNeed → Bool = λ k. crosses groups k && mine k in
    c.one_leads.ensures ∙ (ap (λ (ss : List SiteNeed). list_any leads ss) c.as_slice-sites.ensures ∙ sym (any_kept mine (crosses groups) c.args.subject.now.needs.now.sites))

use Rattle.std.proofs.Common.{◌<◌, List, length, All, sym, ◌∙◌, subst, arith}
use Rattle.std.proofs.lemmas.List.Elements.{All-push, All-weaker}
use Rattle.code_model.specs.declared.places.CallSite.{CallSite}
use Rattle.code_model.specs.Planned.{call_sites_among}
use Rattle.plan_crossings.specs.Seen.{seen_sites}
use Rattle.image_entries.proofs.numbers.all_sites.Goals as goal
use Rattle.plan_model.proofs.Numbers.{mapped_more}
use Rattle.plan_model.specs.CompileLimits.{site_limit}

pub loop-func-preserved : goal.loop-func-preserved
loop-func-preserved c = record {
  exact = mapped_more (call_sites_among 0 (seen_sites c.args.sites.now)) c.loop-func.func c.loop-func.all.items _ _ c.loop-func.invariant.exact (c.new.ensures ∙ c.in_ok-call_sites.ensures.exact) c.in_ok-push.ensures.items;
  small =
      let P : List CallSite → Type 0 = λ ss. All (λ (s : CallSite). s.number < site_limit) ss in
      let few = c.requires in
      let small = All-weaker (λ (s : CallSite). s.number < length c.args.sites.now) (λ (s : CallSite). s.number < site_limit) (λ s l. omega (arith, l, few)) _ c.in_ok-call_sites.ensures.small in
      let x : P c.new.result = subst P (sym c.new.ensures) small in
      subst (All P) (sym c.in_ok-push.ensures.items) (All-push P c.loop-func.all.items c.new.result c.loop-func.invariant.small x);
}

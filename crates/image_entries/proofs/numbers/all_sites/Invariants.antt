use Rattle.std.proofs.Common.{◌≡◌, ◌<◌, List, map, All}
use Rattle.plan_crossings.specs.Seen.{seen_sites}
use Rattle.plan_model.specs.Lists.{numbers_below}
use Rattle.code_model.specs.Planned.{call_sites_among}
use Rattle.code_model.specs.declared.places.CallSite.{CallSite}
use Rattle.image_entries.proofs.numbers.all_sites.Given as goal
use Rattle.plan_model.specs.CompileLimits.{site_limit}

abbrev pub invariant-loop-func : goal.invariant-loop-func
invariant-loop-func l =
    record {
      exact : l.all.items ≡ map (call_sites_among 0 (seen_sites l.sites)) (numbers_below l.func);
      small : All (λ (ss : List CallSite). All (λ (s : CallSite). s.number < site_limit) ss) l.all.items;
    }

use Rattle.std.proofs.Common.{◌≡◌, ◌++◌, ◌<◌, length, drop, All}
use Rattle.code_model.specs.Planned.{call_sites_among}
use Rattle.code_model.specs.declared.places.CallSite.{CallSite}
use Rattle.plan_crossings.specs.Seen.{seen_sites}
use Rattle.plan_crossings.proofs.call_sites.Given as goal

-- what was found and what is left are the whole
abbrev pub invariant-loop-number : goal.invariant-loop-number
invariant-loop-number l =
    record {
      exact : l.calls.items ++ call_sites_among l.number (seen_sites (drop l.number l.sites)) l.func ≡ call_sites_among 0 (seen_sites l.sites) l.func;
      small : All (λ (s : CallSite). s.number < length l.sites) l.calls.items;
    }

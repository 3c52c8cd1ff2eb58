use Rattle.std.proofs.Common.{◌≡◌, ◌++◌, drop}
use Rattle.plan_crossings.specs.Seen.{seen_sites}
use Rattle.image_entries.specs.Recorded.{target_records_in}
use Rattle.image_entries.proofs.records.target_records.Given as goal

-- what was made and what is left are the whole
abbrev pub invariant-loop-site : goal.invariant-loop-site
invariant-loop-site l =
    l.all.items ++ target_records_in l.making (seen_sites (drop l.site-index l.sites)) ≡ target_records_in l.making (seen_sites l.sites)

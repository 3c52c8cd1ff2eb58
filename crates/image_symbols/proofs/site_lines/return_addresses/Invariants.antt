use Rattle.std.proofs.Common.{◌≡◌, map, take}
use Rattle.monitor_model.specs.declared.tables.SiteRecord.{SiteRecord}
use Rattle.image_symbols.proofs.site_lines.return_addresses.Given as goal

abbrev pub invariant-loop-site : goal.invariant-loop-site
invariant-loop-site l = l.all.items ≡ map (λ (s : SiteRecord). s.ret) (take l.site-index l.sites)

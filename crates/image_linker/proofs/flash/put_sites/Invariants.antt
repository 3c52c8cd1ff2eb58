use Rattle.std.proofs.Common.{◌≡◌, ◌++◌, drop, flat_map}
use Rattle.monitor_model.specs.Area as areas
use Rattle.image_linker.proofs.flash.put_sites.Given as goal

-- what was made and what is left are the whole
abbrev pub invariant-loop-site : goal.invariant-loop-site
invariant-loop-site l =
    l.words.items ++ flat_map areas.site_words (drop l.site-index l.all) ≡ l.initial.words.items ++ flat_map areas.site_words l.all

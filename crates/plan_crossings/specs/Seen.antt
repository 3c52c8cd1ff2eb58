-- Beyond the program's claim: only laws, proofs and functions inside the tool cite this file.
-- Sites that are borrowed from the needs.
use Rattle.std.specs.Prelude.{List, map}
use Rattle.std.specs.Borrow.{Bor}
use Rattle.plan_model.specs.declared.needs.SiteNeed.{SiteNeed}

abbrev pub seen_sites : List (Bor SiteNeed) → List SiteNeed
seen_sites ss = map (λ (s : Bor SiteNeed). s.now) ss

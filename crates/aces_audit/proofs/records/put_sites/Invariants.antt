use Rattle.std.proofs.Common.{◌≡◌, ◌++◌, take, flat_map}
use Rattle.aces_audit.specs.TableLines.{site_line}
use Rattle.aces_audit.proofs.records.put_sites.Given as goal

abbrev pub invariant-loop-i : goal.invariant-loop-i
invariant-loop-i l = l.text ≡ l.initial.text ++ flat_map (site_line l.tables) (take l.i l.tables.sites)

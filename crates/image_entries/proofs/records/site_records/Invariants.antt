use Rattle.std.proofs.Common.{◌≡◌, ◌++◌, drop, IfSome}
use Rattle.ir_program.specs.Seen.{program_of}
use Rattle.plan_crossings.specs.Seen.{seen_sites}
use Rattle.image_entries.specs.Recorded.{site_records_in}
use Rattle.image_entries.specs.Walked.{IsFound}
use Rattle.image_entries.proofs.records.site_records.Given as goal

-- what was made and what is left are the whole, and the walk has come to the site that was found last
abbrev pub invariant-loop-site : goal.invariant-loop-site
invariant-loop-site l =
    record {
      whole : l.all.items ++ site_records_in l.making l.first (seen_sites (drop l.site-index l.sites)) ≡ site_records_in l.making 0 (seen_sites l.sites);
      last : IfSome l.last (IsFound (program_of l.making.program.now) l.making.numbers.now);
    }

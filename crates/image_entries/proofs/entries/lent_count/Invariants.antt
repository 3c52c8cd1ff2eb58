use Rattle.std.proofs.Common.{◌≡◌, ◌+◌, drop, count_by, is_some}
use Rattle.image_entries.proofs.entries.lent_count.Given as goal

-- what was made and what is left are the whole
abbrev pub invariant-loop-number : goal.invariant-loop-number
invariant-loop-number l =
    l.count + count_by is_some (drop l.number-index l.lends) ≡ count_by is_some l.lends

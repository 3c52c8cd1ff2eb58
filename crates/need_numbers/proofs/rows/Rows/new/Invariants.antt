use Rattle.std.proofs.Common.{◌≡◌, replicate, []}
use Rattle.need_numbers.proofs.rows.Rows.new.Given as goal

abbrev pub invariant-loop : goal.invariant-loop
invariant-loop l = l.rows.items ≡ replicate l.counter []

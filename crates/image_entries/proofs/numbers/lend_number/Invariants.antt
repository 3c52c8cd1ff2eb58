use Rattle.std.proofs.Common.{◌≡◌, ◌+◌, drop}
use Rattle.std.specs.List.{position_or_len}
use Rattle.plan_model.specs.Lending.{is_local}
use Rattle.image_entries.proofs.numbers.lend_number.Given as goal

abbrev pub invariant-loop-number : goal.invariant-loop-number
invariant-loop-number l = l.number + position_or_len (is_local l.func l.local) (drop l.number l.lent) ≡ position_or_len (is_local l.func l.local) l.lent

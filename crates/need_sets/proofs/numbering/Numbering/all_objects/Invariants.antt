use Rattle.std.proofs.Common.{◌≡◌, length}
use Rattle.need_numbers.specs.Groups.{start_of}
use Rattle.need_sets.specs.Numbers.{AreByNumber}
use Rattle.need_sets.proofs.numbering.Numbering.all_objects.Given as goal

abbrev pub invariant-loop-group : goal.invariant-loop-group
invariant-loop-group l = record { count : length l.by_number.items ≡ start_of l.self.objects l.group; by_number : AreByNumber l.self l.by_number.items }

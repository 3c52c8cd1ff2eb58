use Rattle.std.proofs.Common.{◌≡◌, map, take}
use Rattle.need_sets.specs.Pairs.{object_at}
use Rattle.need_sets.proofs.finish.named.Given as goal

abbrev pub invariant-loop-place : goal.invariant-loop-place
invariant-loop-place l = l.objects.items ≡ map (object_at l.by_number) (take l.place-index l.places)

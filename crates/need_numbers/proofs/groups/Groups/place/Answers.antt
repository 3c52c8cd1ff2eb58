use Rattle.std.proofs.Common.{arith}
use Rattle.need_numbers.proofs.GroupPlaces.{place_fits}
use Rattle.need_numbers.proofs.groups.Groups.place.Goals as goal

pub overflow_add-result : goal.overflow_add-result
overflow_add-result c = let h = place_fits c.self.inside.counts.items c.self.inside.starts.items c.self.inside.total c.args.group c.args.item c.index.result.now c.index-then-item-index.result.now c.self.invariant (omega arith) c.index.ensures c.if-item-index.true c.index-then-item-index.ensures in omega arith

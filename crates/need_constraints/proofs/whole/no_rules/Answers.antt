use Rattle.need_constraints.proofs.Reading.{represents_none, empty_pushed}
use Rattle.need_constraints.proofs.whole.no_rules.Goals as goal

pub loop-preserved : goal.loop-preserved
loop-preserved c = λ n. empty_pushed c.loop.triggers.items c.push.new.self.items c.new.result c.in_ok-push.ensures.items c.new.ensures.items c.loop.invariant n

pub returns : goal.returns
returns c = λ k. represents_none k (record { facts = c.new-2.result; copies = c.new-3.result; triggers = c.loop.triggers }) c.new-2.ensures.items c.new-3.ensures.items c.loop.invariant

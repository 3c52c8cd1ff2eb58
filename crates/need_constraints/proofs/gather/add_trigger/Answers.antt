use Rattle.std.proofs.Common.{refl, arith}
use Rattle.need_constraints.proofs.Adding.{trigger_added, row_put}
use Rattle.need_constraints.proofs.gather.add_trigger.Goals as goal

pub returns : goal.returns
returns c = trigger_added c.args.rules.now _ c.args.node c.args.trigger (row_put c.args.rules.now.triggers.items c.args.node c.index_mut.result.now c.push.new.self c.args.trigger (omega arith) c.index_mut.ensures.value c.in_ok-push.ensures.items) refl refl

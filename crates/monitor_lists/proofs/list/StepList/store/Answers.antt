use Rattle.std.proofs.Common.{◌≡◌, [], ◌∷◌, ◌++◌}
use Rattle.monitor_steps.specs.declared.steps.PrivilegedStep.TheBlock.{Store}
use Rattle.monitor_steps.specs.Steps as list
use Rattle.monitor_lists.proofs.Listed.{one_more, store_at_once}
use Rattle.monitor_lists.proofs.list.StepList.store.Goals as goal
use Rattle.base_laws.proofs.Options.{on_ok}

pub returns : goal.returns
returns c =
    let old = c.args.self.now.steps.items in
    let new = c.put.new.self.steps.items in
    on_ok c.put.result (λ (e : new ≡ old ++ (Store c.args.from c.args.base 0 c.args.width) ∷ []). one_more old new (Store c.args.from c.args.base 0 c.args.width) (λ rest. list.Store c.args.width c.args.from c.args.base 0 rest) e (λ rest. store_at_once c.args.from c.args.base c.args.width rest)) c.put.ensures

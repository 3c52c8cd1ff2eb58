use Rattle.std.proofs.Common.{◌≡◌, [], ◌∷◌, ◌++◌}
use Rattle.monitor_steps.specs.declared.steps.PrivilegedStep.TheBlock.{Load}
use Rattle.monitor_steps.specs.Steps as list
use Rattle.monitor_lists.proofs.Listed.{one_more, load_at_once}
use Rattle.monitor_lists.proofs.list.StepList.load.Goals as goal
use Rattle.base_laws.proofs.Options.{on_ok}

pub returns : goal.returns
returns c =
    let old = c.args.self.now.steps.items in
    let new = c.put.new.self.steps.items in
    on_ok c.put.result (λ (e : new ≡ old ++ (Load c.args.to c.args.base 0 c.args.width) ∷ []). one_more old new (Load c.args.to c.args.base 0 c.args.width) (λ rest. list.Load c.args.width c.args.to c.args.base 0 rest) e (λ rest. load_at_once c.args.to c.args.base c.args.width rest)) c.put.ensures

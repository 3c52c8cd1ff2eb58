use Rattle.std.proofs.Common.{◌≡◌, [], ◌∷◌, ◌++◌}
use Rattle.monitor_steps.specs.declared.steps.PrivilegedStep.TheBlock.{Return}
use Rattle.monitor_steps.specs.Steps as list
use Rattle.monitor_steps.proofs.Views.{before-Return}
use Rattle.monitor_lists.proofs.Listed.{one_more}
use Rattle.monitor_lists.proofs.list.StepList.exception_return.Goals as goal
use Rattle.base_laws.proofs.Options.{on_ok}

pub returns : goal.returns
returns c =
    let old = c.args.self.now.steps.items in
    let new = c.put.new.self.steps.items in
    on_ok c.put.result (λ (e : new ≡ old ++ Return ∷ []). one_more old new (Return) (λ rest. list.Return rest) e (λ rest. before-Return rest)) c.put.ensures

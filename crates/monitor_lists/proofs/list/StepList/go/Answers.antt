use Rattle.std.proofs.Common.{◌≡◌, [], ◌∷◌, ◌++◌}
use Rattle.monitor_steps.specs.declared.steps.PrivilegedStep.TheBlock.{Go}
use Rattle.monitor_steps.specs.Steps as list
use Rattle.monitor_steps.proofs.Views.{before-Go}
use Rattle.monitor_lists.proofs.Listed.{one_more}
use Rattle.monitor_lists.proofs.list.StepList.go.Goals as goal
use Rattle.base_laws.proofs.Options.{on_ok}

pub returns : goal.returns
returns c =
    let old = c.args.self.now.steps.items in
    let new = c.put.new.self.steps.items in
    on_ok c.put.result (λ (e : new ≡ old ++ (Go c.args.to c.args.link) ∷ []). one_more old new (Go c.args.to c.args.link) (λ rest. list.Go c.args.to c.args.link rest) e (λ rest. before-Go c.args.to c.args.link rest)) c.put.ensures
